-- `line_num::passes` meets its contract. Assumes nothing.
use borrow.Author.Rules.{rules}
use Rattle.line_num.proofs.ScanLaws.{passes_on, passes_not, passes_told}
use Rattle.line_num.proofs.passes.Statement.{statement}
use Rattle.line_num.proofs.passes.Tie as tie

pub passes_spec : {M : Type 1} → statement M
passes_spec =
    tie.close
    (tie.spec
    (λ c. search (passes_on, rules))
    (λ c. search rules)
    (λ c. search rules)
    (λ c. search rules)
    (λ c. search (passes_not, rules))
    (λ c. search rules)
    (λ c. search rules)
    (λ c. search rules)
    (λ c. search (passes_told, rules)))
