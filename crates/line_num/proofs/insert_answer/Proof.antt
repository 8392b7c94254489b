-- `line_num::length_answer` meets its contract. Assumes nothing.
use borrow.Author.Rules.{rules}
use Rattle.line_num.proofs.StepLaws.{answer_short, answer_ill, answer_dropped, answer_put, answer_full}
use Rattle.line_num.proofs.insert_answer.Statement.{statement}
use Rattle.line_num.proofs.insert_answer.Tie as tie

pub insert_answer_spec : {M : Type 1} → statement M
insert_answer_spec =
    tie.close
    (tie.spec
    (λ c κs. search rules)
    (λ c. search (answer_short, rules))
    (λ c κs. search rules)
    (λ c. search (answer_ill, rules))
    (λ c. search (answer_dropped, rules))
    (λ c. search rules)
    (λ c. search (answer_put, rules))
    (λ c κs. search rules)
    (λ c. search (answer_full, rules)))
