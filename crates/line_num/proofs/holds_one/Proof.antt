-- `line_num::holds_one` meets its contract. Assumes nothing.
use borrow.Author.Rules.{rules}
use Rattle.line_num.proofs.ScanLaws.{held-before, held-behind, held_told}
use Rattle.line_num.proofs.holds_one.Statement.{statement}
use Rattle.line_num.proofs.holds_one.Tie as tie

pub holds_one_spec : {M : Type 1} → statement M
holds_one_spec =
    tie.close
    (tie.spec
    (λ c. search (held-before, rules))
    (λ c. search (held-behind, rules))
    (λ c. search (held_told, rules)))
