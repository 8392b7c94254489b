-- A range joined with those that it overlaps or is next to, and put in their place. Assumes nothing.
use Prim.Native.Nat.{ℕ, zero, suc, ◌+◌, ◌-◌, ◌≤◌, ◌<◌, min, max}
use native.Mathlib.Omega.{arith}
use native.Mathlib.Numerals.{add-one}
use mathlib.Core.Path.{◌≡◌, refl, ap, ap₂, ◌∙◌}
use mathlib.Core.Bool.{false}
use mathlib.Core.List.{List, ◌∷◌, ◌++◌}
use lib.Dec.{ltb}
use borrow.Author.Tests.{ltb-true, ltb-false, lt-ltb, le-ltb, le-leb, lt-leb}
use lib.ListN.{length, take, replicate, length-append}
use Rattle.model.specs.declared.Range.{Range}
use Rattle.model.specs.Ranges.{join_into, insert_range}
use Rattle.table.specs.Places.{PartitionPoint}
use Rattle.line_num_pairs.specs.Pairs.{pair, range_at, span, ranges_in, EndsBefore, RangePlaced, Carried, Cleared, replaced_by, filled_up}
use Rattle.line_num_pairs.proofs.SpanLaws.{length-span, span_shift, span-split, span-zeros, used-span}

-- ---- one pair after the other

-- a range that was joined with the pairs from first up to past
pub record Joining (ps : List (List ℕ)) (used first start₀ end₀ start end past : ℕ) : Type 0 where
  pub begun : first ≤ past
  pub inside : past ≤ used
  pub grown : start ≤ start₀
  pub rest : join_into (pair start₀ end₀) (span (range_at ps) first (used - first)) ≡ join_into (pair start end) (span (range_at ps) past (used - past))

pub joining_none : (ps : List (List ℕ)) (used first start end : ℕ) → first ≤ used → Joining ps used first start end start end first
joining_none ps used first start end h = record { begun = omega arith; inside = h; grown = omega arith; rest = refl }

module _ (ps : List (List ℕ)) (used first start₀ end₀ start end past : ℕ) (η : Joining ps used first start₀ end₀ start end past) where
  pub joined-all : used ≤ past
      → join_into (pair start₀ end₀) (span (range_at ps) first (used - first)) ≡ pair start end ∷ span (range_at ps) past (used - past)
  unfolding join_into span
  joined-all h = let e : used - past ≡ 0 = omega arith in η.rest ∙ rw e

  module _ (more : past < used) (cut : PartitionPoint (EndsBefore ps start₀) used first) (r : Range) (is : r ≡ range_at ps past) where
    split : used - past ≡ suc (used - (past + 1))
    split = omega arith

    not_before : ltb (suc (range_at ps past).end) start ≡ false
    not_before =
        le-ltb (suc (range_at ps past).end) start
        (omega (arith, η.grown, ltb-false (suc (range_at ps past).end) start₀ (cut.rest past η.begun more)))

    pub joined-stop : end + 1 < r.start
        → join_into (pair start₀ end₀) (span (range_at ps) first (used - first)) ≡ pair start end ∷ span (range_at ps) past (used - past)
    unfolding join_into span
    joined-stop h =
        let b : suc end < (range_at ps past).start = omega (arith, ap (λ (x : Range). x.start) is) in
        η.rest ∙ rw (split, not_before, lt-ltb (suc end) (range_at ps past).start b)

    one_more : r.start ≤ end + 1 → join_into (pair start end) (span (range_at ps) past (used - past))
        ≡ join_into (pair (min start r.start) (max end r.end)) (span (range_at ps) (past + 1) (used - (past + 1)))
    unfolding join_into span
    one_more h =
        let b : (range_at ps past).start ≤ suc end = omega (arith, ap (λ (x : Range). x.start) is) in
        rw (split, not_before, le-ltb (suc end) (range_at ps past).start b, is, add-one past)

    pub joining_next : r.start ≤ end + 1 → (lo hi : ℕ) → lo ≡ min start r.start → hi ≡ max end r.end
        → Joining ps used first start₀ end₀ lo hi (past + 1)
    joining_next h lo hi low high = record {
      begun = omega (arith, η.begun);
      inside = omega arith;
      grown = omega (arith, η.grown);
      rest = η.rest ∙ one_more h ∙ rw (low, high);
    }

-- ---- the whole list

-- the pairs that end before the range stay
join_past : (f : ℕ → Range) (r : Range) (i m n j t : ℕ) → j ≡ i + m → t ≡ m + n → ((k : ℕ) → i ≤ k → k < i + m → suc (f k).end < r.start)
    → join_into r (span f i t) ≡ span f i m ++ join_into r (span f j n)
unfolding join_into span
join_past f r i zero n j t e h b = let z : j ≡ i = omega arith in let y : t ≡ n = omega arith in rw (z, y)
join_past f r i (suc m) n j zero e h b = absurd (omega arith)
join_past f r i (suc m) n j (suc t) e h b =
    rw (lt-ltb (suc (f i).end) r.start (b i (omega arith) (omega arith)))
    (ap (λ (l : List Range). f i ∷ l) (join_past f r (suc i) m n j t (omega arith) (omega arith) (λ k p q. b k (omega arith) (omega arith))))

pub length-replaced : (f : ℕ → Range) (used first : ℕ) (r : Range) (past : ℕ) → length (replaced_by f used first r past) ≡ first + 1 + (used - past)
unfolding replaced_by
length-replaced f used first r past =
    length-append (span f 0 first) (r ∷ span f past (used - past))
    ∙ rw (length-span f 0 first, length-span f past (used - past)) (let e : first + suc (used - past) ≡ first + 1 + (used - past) = omega arith in e)

pub inserted : (ps : List (List ℕ)) (used start end first : ℕ) (r : Range) (past : ℕ) → used ≤ length ps → start ≤ end → PartitionPoint (EndsBefore ps start) used first
    → join_into (pair start end) (span (range_at ps) first (used - first)) ≡ r ∷ span (range_at ps) past (used - past)
    → insert_range (pair start end) (take used (ranges_in ps)) ≡ replaced_by (range_at ps) used first r past
unfolding insert_range replaced_by
inserted ps used start end first r past h l cut e =
    rw (used-span ps used h, le-leb start end l)
    (join_past (range_at ps) (pair start end) 0 first (used - first) first used (omega arith) (omega (arith, cut.most))
    (λ k p q. ltb-true (suc (range_at ps k).end) start (cut.past k (omega arith)))
    ∙ ap (λ (t : List Range). span (range_at ps) 0 first ++ t) e)

pub dropped : (ps : List (List ℕ)) (used start end : ℕ) → used ≤ length ps → end < start
    → insert_range (pair start end) (take used (ranges_in ps)) ≡ span (range_at ps) 0 used
unfolding insert_range
dropped ps used start end h l = rw (lt-leb start end l) (used-span ps used h)

-- ---- the slice afterwards

pub cleared_list : (ps ps' : List (List ℕ)) (from : ℕ) → length ps' ≡ length ps → from ≤ length ps → Cleared (range_at ps) (range_at ps') from (length ps)
    → ranges_in ps' ≡ span (range_at ps) 0 from ++ replicate (length ps - from) (pair 0 0)
unfolding ranges_in
cleared_list ps ps' from l h κ =
    let e : length ps' ≡ length ps = omega arith in
    rw e
    (span-split (range_at ps') 0 from (length ps - from) from (length ps) (omega arith) (omega arith)
    ∙ ap₂ ◌++◌
    (span_shift (range_at ps') (range_at ps) 0 0 from (λ k m p q x. let z : m ≡ k = omega arith in rw z (κ.below k (omega arith))))
    (span-zeros (range_at ps') from (length ps - from) (λ k p q. κ.zeros k p (omega arith))))

placed_list : (f g h : ℕ → Range) (used first : ℕ) (r : Range) (past : ℕ) → Carried f g past (first + 1) (used - past) → RangePlaced g h first r
    → span h 0 (first + 1 + (used - past)) ≡ replaced_by f used first r past
unfolding replaced_by span
placed_list f g h used first r past κ π =
    span-split h 0 first (suc (used - past)) first (first + 1 + (used - past)) (omega arith) (omega arith)
    ∙ ap₂ ◌++◌
    (span_shift h f 0 0 first (λ k m p q x. let z : m ≡ k = omega arith in rw z (π.others k (omega arith) ∙ κ.below k (omega arith))))
    (ap₂ ◌∷◌ π.there
    (span_shift h f (suc first) past (used - past) (λ k m p q x. π.others k (omega arith) ∙ κ.shifted k m (omega arith) (omega arith) (omega arith))))

pub put_list : (ps a b ps' : List (List ℕ)) (used first : ℕ) (r : Range) (past : ℕ) → length a ≡ length ps → length b ≡ length a → length ps' ≡ length b
    → first + 1 + (used - past) ≤ length ps
    → Carried (range_at ps) (range_at a) past (first + 1) (used - past) → RangePlaced (range_at a) (range_at b) first r
    → Cleared (range_at b) (range_at ps') (first + 1 + (used - past)) (length b)
    → ranges_in ps' ≡ filled_up ps (replaced_by (range_at ps) used first r past)
put_list ps a b ps' used first r past la lb lc h κ π ζ =
    let e : length b ≡ length ps = lb ∙ la in
    cleared_list b ps' (first + 1 + (used - past)) lc (omega arith) ζ
    ∙ rw (e, placed_list (range_at ps) (range_at a) (range_at b) used first r past κ π, length-replaced (range_at ps) used first r past)
