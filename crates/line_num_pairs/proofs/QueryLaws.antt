-- A query asks one pair: the first that ends at s or later. Assumes nothing.
use Prim.Native.Nat.{ℕ, zero, suc, ◌+◌, ◌≤◌, ◌<◌}
use native.Mathlib.Omega.{arith}
use mathlib.Core.Path.{◌≡◌, refl, sym, ◌∙◌}
use mathlib.Core.Logic.{◌≢◌}
use mathlib.Core.Bool.{Bool, true, false, ◌&&◌, ◌||◌}
use mathlib.Core.List.{List}
use lib.Dec.{leb}
use borrow.Author.Tests.{leb-false, le-leb, lt-leb, ltb-true, ltb-false}
use lib.ListN.{take}
use Rattle.model.specs.declared.Range.{Range}
use Rattle.model.specs.Lists.{any}
use Rattle.model.specs.Ranges.{well_formed_ranges, holds}
use Rattle.table.specs.Places.{PartitionPoint}
use Rattle.table.proofs.PlaceLaws.{by-eq, by-lt}
use Rattle.table.proofs.BinarySearch.{by-test}
use Rattle.line_num_pairs.specs.Pairs.{range_at, span, ranges_in, EndsBefore}
use Rattle.line_num_pairs.proofs.SpanLaws.{used-span}
use Rattle.line_num_pairs.proofs.WellLaws.{Rising, well_inside, well_rising}

or_true : (a b : Bool) → b ≡ true → (a || b) ≡ true
or_true true b e = refl
or_true false b e = e

and_last : (a b : Bool) → b ≡ false → (a && b) ≡ false
and_last true b e = e
and_last false b e = refl

module _ (test : Range → Bool) (f : ℕ → Range) where
  any_none : (i n : ℕ) → ((k : ℕ) → i ≤ k → k < i + n → test (f k) ≡ false) → any test (span f i n) ≡ false
  unfolding any span
  any_none i zero h = refl
  any_none i (suc n) h = rw (h i (omega arith) (omega arith)) (any_none (suc i) n (λ k l m. h k (omega arith) (omega arith)))

  any_some : (i n k : ℕ) → i ≤ k → k < i + n → test (f k) ≡ true → any test (span f i n) ≡ true
  unfolding any span
  any_some i zero k l m t = absurd (omega arith)
  any_some i (suc n) k l m t =
      by-eq k i
      (λ z. let u : test (f i) ≡ true = rw z at t in rw u)
      (λ z. or_true (test (f i)) (any test (span f (suc i) n)) (any_some (suc i) n k (omega arith) (omega arith) t))

module _ (ps : List (List ℕ)) (used s e first : ℕ) (well : well_formed_ranges (ranges_in ps) used ≡ true) (cut : PartitionPoint (EndsBefore ps (s + 1)) used first) where
  abbrev asked : Range → Bool
  asked r = leb r.start e && leb s r.end

  ended-before : (k : ℕ) → k < first → asked (range_at ps k) ≡ false
  ended-before k h =
      and_last (leb (range_at ps k).start e) (leb s (range_at ps k).end)
      (lt-leb s (range_at ps k).end (omega (arith, ltb-true (suc (range_at ps k).end) (s + 1) (cut.past k h))))

  pub holds-none : first ≡ used → false ≡ holds (take used (ranges_in ps)) s e
  unfolding holds
  holds-none h =
      rw (used-span ps used (well_inside ps used well))
      (sym (any_none asked (range_at ps) 0 used (λ k l m. ended-before k (omega arith))))

  pub holds-first : first ≢ used → (r : Range) → r ≡ range_at ps first → leb r.start e ≡ holds (take used (ranges_in ps)) s e
  unfolding holds
  holds-first n r is =
      rw (used-span ps used (well_inside ps used well), is)
      (by-test (leb (range_at ps first).start e)
      (λ t. t ∙ sym (any_some asked (range_at ps) 0 used first (omega arith) (omega (arith, cut.most)) (rw t (le-leb s (range_at ps first).end reaches))))
      (λ t. t ∙ sym (any_none asked (range_at ps) 0 used (λ k l m. by-lt k first
      (λ h. ended-before k h)
      (λ h. let u : leb (range_at ps k).start e ≡ false = lt-leb (range_at ps k).start e (behind k h (omega arith) (leb-false (range_at ps first).start e t)) in rw u)))))
    where
      ρ : Rising (range_at ps) used
      ρ = well_rising ps used well

      reaches : s ≤ (range_at ps first).end
      reaches = omega (arith, ltb-false (suc (range_at ps first).end) (s + 1) (cut.rest first (omega arith) (omega (arith, cut.most))))

      behind : (k : ℕ) → first ≤ k → k < used → e < (range_at ps first).start → e < (range_at ps k).start
      behind k h l p =
          by-eq first k
          (λ z. rw z at p)
          (λ z. omega (arith, ρ.apart first k (omega arith) l, ρ.each first (omega arith)))
