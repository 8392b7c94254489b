-- `line_num::scanned` meets its contract. Assumes nothing.
use borrow.Author.Rules.{rules}
use Rattle.line_num.proofs.ScanLaws.{scanned_past, scanned_stays, scanned_joined}
use Rattle.line_num.proofs.scanned.Statement.{statement}
use Rattle.line_num.proofs.scanned.Tie as tie

pub scanned_spec : {M : Type 1} → statement M
scanned_spec =
    tie.close
    (tie.spec
    (λ c κs. search rules)
    (λ c. search rules)
    (λ c. search rules)
    (λ c κs. search rules)
    (λ c κs. search rules)
    (λ c κs. search rules)
    (λ c. search (scanned_past, rules))
    (λ c κs. search rules)
    (λ c κs. search rules)
    (λ c. search (scanned_stays, rules))
    (λ c κs. search rules)
    (λ c κs. search rules)
    (λ c. search (scanned_joined, rules)))
