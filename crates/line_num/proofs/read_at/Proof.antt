-- `line_num::read_at` meets its contract. Assumes nothing.
use borrow.Author.Rules.{rules}
use Rattle.line_num.proofs.StepLaws.{read_first, read_behind}
use Rattle.line_num.proofs.read_at.Statement.{statement}
use Rattle.line_num.proofs.read_at.Tie as tie

pub read_at_spec : {M : Type 1} → statement M
read_at_spec =
    tie.close
    (tie.spec
    (λ c. search (read_first, rules))
    (λ c. search rules)
    (λ c. search (read_behind, rules)))
