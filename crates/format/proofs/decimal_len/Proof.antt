use borrow.Author.Rules.{rules}
use Prim.Native.Nat.{◌-◌}
use Rattle.format.proofs.PowerLaws.{Counting, count-start, count_20, count_fits, count-more, count-end}
use Rattle.format.proofs.decimal_len.Statement.{statement}
use Rattle.format.proofs.decimal_len.Tie as tie

abbrev invariant-loop : tie.invariant-loop-power
invariant-loop v power₀ n₀ power n = Counting v power n

abbrev decreases-loop : tie.decreases-loop-power
decreases-loop v power₀ n₀ power n = 20 - n

pub decimal_len_spec : {M : Type 1} → statement M
decimal_len_spec =
    tie.close
    (tie.spec
    invariant-loop
    decreases-loop
    (λ c. search rules)
    (λ c. search (count_20, rules))
    (λ c. search rules)
    (λ c. search (count-start, rules))
    (λ c. search (count_fits, rules))
    (λ c. search rules)
    (λ c. search rules)
    (λ c. search (count-more, rules))
    (λ c. search (count-end, rules)))
