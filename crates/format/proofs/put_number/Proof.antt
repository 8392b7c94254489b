use borrow.Author.Rules.{rules}
use native.Mathlib.Omega.{arith}
use lib.ListN.{length-set}
use Rattle.format.proofs.OverLaws.{after-room, first_fits, first-over, next_size}
use Rattle.format.proofs.put_number.Statement.{statement}
use Rattle.format.proofs.put_number.Tie as tie

pub put_number_spec : {M : Type 1} → statement M
put_number_spec =
    tie.close
    (tie.spec
    (λ c. search rules)
    (λ c. simp length-set (omega arith))
    (λ c. simp length-set (omega arith))
    (λ c. search rules)
    (λ c κs. search (after-room, rules))
    (λ c. search (first_fits, rules))
    (λ c. search (next_size, rules))
    (λ c. search (first-over, rules)))
