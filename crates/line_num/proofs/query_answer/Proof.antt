-- `line_num::call_answer` meets its contract. Assumes nothing.
use borrow.Author.Rules.{rules}
use Rattle.line_num.proofs.ScanLaws.{short_answer, ill_answer, held_answer}
use Rattle.line_num.proofs.query_answer.Statement.{statement}
use Rattle.line_num.proofs.query_answer.Tie as tie

pub query_answer_spec : {M : Type 1} → statement M
query_answer_spec =
    tie.close
    (tie.spec
    (λ c κs. search rules)
    (λ c. search (short_answer, rules))
    (λ c κs. search rules)
    (λ c. search (ill_answer, rules))
    (λ c. search (held_answer, rules)))
