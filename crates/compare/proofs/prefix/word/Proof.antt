-- `compare::prefix::word` meets its contract. Assumes nothing.
use native.Mathlib.Omega.{arith}
use borrow.Author.Rules.{rules}
use Rattle.compare.proofs.PrefixLaws.{two_halves}
use Rattle.compare.proofs.prefix.word.Statement.{statement}
use Rattle.compare.proofs.prefix.word.Tie as tie

pub word_spec : {M : Type 1} → statement M
word_spec =
    tie.close
    (tie.spec
    (λ c κs. search rules)
    (λ c. search rules)
    (λ c κs. search rules)
    (λ c. search rules)
    (λ c. search rules)
    (λ c. record { is = two_halves _ _ 4 _ _ (omega arith) c.before.quad.ensures c.quad-2.ensures; fits = omega arith }))
