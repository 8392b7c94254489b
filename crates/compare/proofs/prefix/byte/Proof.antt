-- `compare::prefix::byte` meets its contract. Assumes nothing.
use native.Mathlib.Omega.{arith}
use borrow.Author.Rules.{rules}
use Rattle.compare.proofs.PrefixLaws.{one_byte}
use Rattle.compare.proofs.prefix.byte.Statement.{statement}
use Rattle.compare.proofs.prefix.byte.Tie as tie

pub byte_spec : {M : Type 1} → statement M
byte_spec =
    tie.close
    (tie.spec
    (λ c. search rules)
    (λ c. omega (arith, c.shared_slice_known-1.given c.before.args.i))
    (λ c. one_byte _ _ c.before.requires c.shared_slice_known-1.given))
