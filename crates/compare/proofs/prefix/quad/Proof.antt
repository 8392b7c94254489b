-- `compare::prefix::quad` meets its contract. Assumes nothing.
use native.Mathlib.Omega.{arith}
use borrow.Author.Rules.{rules}
use Rattle.compare.proofs.PrefixLaws.{two_halves}
use Rattle.compare.proofs.prefix.quad.Statement.{statement}
use Rattle.compare.proofs.prefix.quad.Tie as tie

pub quad_spec : {M : Type 1} → statement M
quad_spec =
    tie.close
    (tie.spec
    (λ c κs. search rules)
    (λ c. search rules)
    (λ c κs. search rules)
    (λ c. search rules)
    (λ c. search rules)
    (λ c. record { is = two_halves _ _ 2 _ _ (omega arith) c.before.pair.ensures c.pair-2.ensures; fits = omega arith }))
