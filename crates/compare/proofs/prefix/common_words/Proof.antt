-- `compare::prefix::common_words` meets its contract. Assumes nothing.
use Prim.Native.Nat.{◌-◌}
use native.Mathlib.Omega.{arith}
use borrow.Author.Rules.{rules}
use Rattle.compare.proofs.PrefixLaws.{Sharing, sharing_start, sharing_done, word-alike, word_differs}
use Rattle.compare.proofs.prefix.common_words.Statement.{statement}
use Rattle.compare.proofs.prefix.common_words.Tie as tie

abbrev invariant-loop : tie.invariant-loop-i
invariant-loop a b n i₀ i = Sharing a b n i

abbrev decreases-loop : tie.decreases-loop-i
decreases-loop a b n i₀ i = n - i

pub common_words_spec : {M : Type 1} → statement M
common_words_spec =
    tie.close
    (tie.spec
    invariant-loop
    decreases-loop
    (λ c κs. search rules)
    (λ c. search (sharing_start, rules))
    (λ c. search rules)
    (λ c κs. search rules)
    (λ c κs. search rules)
    (λ c. word_differs c.before.before.before.before.loop-i.invariant _ _ c.before.before.word.ensures c.before.word-in-loop-i.ensures c.if-word.true)
    (λ c. search rules)
    (λ c. search rules)
    (λ c. word-alike c.before.before.before.before.loop-i.invariant _ _ c.before.before.before.before.before.before.before.shared_slice_known-1.given c.before.before.before.before.before.before.shared_slice_known-2-1.given (omega arith)
    c.before.before.word.ensures c.before.word-in-loop-i.ensures c.if-word.false)
    (λ c. search (sharing_done, rules)))
