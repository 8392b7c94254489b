-- `line_num_pairs::holds_at` meets its contract. Assumes nothing.
use native.Mathlib.Omega.{arith}
use borrow.Author.Rules.{rules}
use Rattle.line_num_pairs.proofs.QueryLaws.{holds-none, holds-first}
use Rattle.line_num_pairs.proofs.holds_at.Statement.{statement}
use Rattle.line_num_pairs.proofs.holds_at.Tie as tie

pub holds_at_spec : {M : Type 1} → statement M
holds_at_spec =
    tie.close
    (tie.spec
    (λ c. omega arith)
    (λ c κs. search rules)
    (λ c. search (holds-none, rules))
    (λ c κs. omega arith)
    (λ c. search (holds-first, rules)))
