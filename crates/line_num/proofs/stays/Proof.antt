-- `line_num::stays` meets its contract. Assumes nothing.
use borrow.Author.Rules.{rules}
use Rattle.line_num.proofs.ScanLaws.{stays_not, stays_told}
use Rattle.line_num.proofs.stays.Statement.{statement}
use Rattle.line_num.proofs.stays.Tie as tie

pub stays_spec : {M : Type 1} → statement M
stays_spec =
    tie.close
    (tie.spec
    (λ c. search (stays_not, rules))
    (λ c. search rules)
    (λ c. search rules)
    (λ c. search rules)
    (λ c. search (stays_told, rules)))
