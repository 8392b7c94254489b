-- `compare::prefix::pair` meets its contract. Assumes nothing.
use native.Mathlib.Omega.{arith}
use borrow.Author.Rules.{rules}
use Rattle.compare.proofs.PrefixLaws.{two_halves}
use Rattle.compare.proofs.prefix.pair.Statement.{statement}
use Rattle.compare.proofs.prefix.pair.Tie as tie

pub pair_spec : {M : Type 1} → statement M
pair_spec =
    tie.close
    (tie.spec
    (λ c κs. search rules)
    (λ c. search rules)
    (λ c κs. search rules)
    (λ c. search rules)
    (λ c. search rules)
    (λ c. record { is = two_halves _ _ 1 _ _ (omega arith) c.before.byte.ensures c.byte-2.ensures; fits = omega arith }))
