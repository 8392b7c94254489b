-- Ranges that are well formed: by one pass over them, and place by place. Assumes nothing.
use Prim.Native.Nat.{ℕ, zero, suc, ◌+◌, ◌-◌, ◌/◌, ◌≤◌, ◌<◌}
use native.Mathlib.Omega.{arith}
use native.Mathlib.Numerals.{add-one}
use mathlib.Core.Path.{◌≡◌, refl, sym, ap, ◌∙◌}
use mathlib.Core.Bool.{Bool, true, false, ◌&&◌}
use mathlib.Core.List.{List}
use lib.Dec.{leb, ltb}
use borrow.Author.Tests.{leb-true, le-leb, lt-leb, ltb-true, ltb-false, lt-ltb, le-ltb}
use lib.ListN.{length, take}
use Rattle.model.specs.declared.Range.{Range}
use Rattle.model.specs.Ranges.{ascending, well_formed_ranges}
use Rattle.model.proofs.ListLaws.{and_left, and_right}
use Rattle.table.proofs.PlaceLaws.{by-eq}
use Rattle.table.specs.Places.{SearchBounds}
use Rattle.table.proofs.BinarySearch.{Falling, bounds-up, bounds_down}
use Rattle.line_num_pairs.specs.Pairs.{range_at, span, ranges_in, EndsBefore}
use Rattle.line_num_pairs.proofs.SpanLaws.{used-span, ranges-length}

-- n pairs from place i on are well formed, the first start at least least
unfoldable pub ascending_from : (ℕ → Range) → ℕ → ℕ → ℕ → Bool
ascending_from f least i zero = true
ascending_from f least i (suc n) = leb least (f i).start && leb (f i).start (f i).end && ascending_from f ((f i).end + 2) (suc i) n

and_true : (b : Bool) → b ≡ (b && true)
and_true true = refl
and_true false = refl

and_false : (b c : Bool) → false ≡ (b && false && c)
and_false true c = refl
and_false false c = refl

and_none : (b c d : Bool) → false ≡ (b && (false && c && d))
and_none true c d = refl
and_none false c d = refl

ascending-from : (f : ℕ → Range) (least i n : ℕ) → least ≤ (f i).start → ascending (span f i n) ≡ ascending_from f least i n
unfolding ascending ascending_from span
ascending-from f least i zero h = refl
ascending-from f least i (suc zero) h = rw (le-leb least (f i).start h) (and_true (leb (f i).start (f i).end))
ascending-from f least i (suc (suc n)) h = rw (le-leb least (f i).start h) (go (ltb (suc (f i).end) (f (suc i)).start) refl (ascending-from f ((f i).end + 2) (suc i) (suc n)))
  where
    go : (t : Bool) → ltb (suc (f i).end) (f (suc i)).start ≡ t
        → ((f i).end + 2 ≤ (f (suc i)).start → ascending (span f (suc i) (suc n)) ≡ ascending_from f ((f i).end + 2) (suc i) (suc n))
        → (leb (f i).start (f i).end && t && ascending (span f (suc i) (suc n))) ≡ (leb (f i).start (f i).end && ascending_from f ((f i).end + 2) (suc i) (suc n))
    go true e ih =
        ap (λ (t : Bool). t && ascending (span f (suc i) (suc n))) (sym (and_true (leb (f i).start (f i).end)))
        ∙ ap (λ (t : Bool). leb (f i).start (f i).end && t) (ih (omega (arith, ltb-true (suc (f i).end) (f (suc i)).start e)))
    go false e ih =
        sym (and_false (leb (f i).start (f i).end) (ascending (span f (suc i) (suc n))))
        ∙ rw (lt-leb ((f i).end + 2) (f (suc i)).start (omega (arith, ltb-false (suc (f i).end) (f (suc i)).start e)))
        (and_none (leb (f i).start (f i).end) (leb (f (suc i)).start (f (suc i)).end) (ascending_from f ((f (suc i)).end + 2) (suc (suc i)) n))

-- ---- by one pass

pub well_short : (ps : List (List ℕ)) (used : ℕ) → length ps < used → false ≡ well_formed_ranges (ranges_in ps) used
unfolding well_formed_ranges
well_short ps used h = sym (rw (ranges-length ps, lt-leb used (length ps) h))

pub well_start : (ps : List (List ℕ)) (used : ℕ) → used ≤ length ps → well_formed_ranges (ranges_in ps) used ≡ ascending_from (range_at ps) 0 0 (used - 0)
unfolding well_formed_ranges
well_start ps used h =
    let e : used - 0 ≡ used = omega arith in
    rw (ranges-length ps, le-leb used (length ps) h, used-span ps used h, e) (ascending-from (range_at ps) 0 0 used (omega arith))

module _ (ps : List (List ℕ)) (used least k : ℕ) (so_far : well_formed_ranges (ranges_in ps) used ≡ ascending_from (range_at ps) least k (used - k)) where
  pub well_done : used ≤ k → true ≡ well_formed_ranges (ranges_in ps) used
  unfolding ascending_from
  well_done h = let e : used - k ≡ 0 = omega arith in sym (so_far ∙ rw e)

  module _ (more : k < used) (r : Range) (is : r ≡ range_at ps k) where
    one_more : well_formed_ranges (ranges_in ps) used ≡ (leb least r.start && leb r.start r.end && ascending_from (range_at ps) (r.end + 2) (k + 1) (used - (k + 1)))
    unfolding ascending_from
    one_more = let e : used - k ≡ suc (used - (k + 1)) = omega arith in so_far ∙ rw (e, add-one k, is)

    pub well_low : r.start < least → false ≡ well_formed_ranges (ranges_in ps) used
    well_low h = sym (one_more ∙ rw (lt-leb least r.start h))

    module _ (high : least ≤ r.start) where
      pub well_turned : r.end < r.start → false ≡ well_formed_ranges (ranges_in ps) used
      well_turned h = sym (one_more ∙ rw (le-leb least r.start high, lt-leb r.start r.end h))

      pub well_next : r.start ≤ r.end → well_formed_ranges (ranges_in ps) used ≡ ascending_from (range_at ps) (r.end + 2) (k + 1) (used - (k + 1))
      well_next h = one_more ∙ rw (le-leb least r.start high, le-leb r.start r.end h)

-- ---- place by place

-- start at most end, and a gap of at least one line before each that follows
pub record Rising (f : ℕ → Range) (n : ℕ) : Type 0 where
  pub each : (k : ℕ) → k < n → (f k).start ≤ (f k).end
  pub apart : (k j : ℕ) → k < j → j < n → (f k).end + 2 ≤ (f j).start

module _ (f : ℕ → Range) where
  abbrev first-test : ℕ → ℕ → Bool
  first-test least i = leb least (f i).start && leb (f i).start (f i).end

  first_at : (least i : ℕ) → first-test least i ≡ true → (least ≤ (f i).start) × ((f i).start ≤ (f i).end)
  first_at least i e = (
    leb-true least (f i).start (and_left (leb least (f i).start) (leb (f i).start (f i).end) e),
    leb-true (f i).start (f i).end (and_right (leb least (f i).start) (leb (f i).start (f i).end) e),
  )

  rising-each : (least i n : ℕ) → ascending_from f least i n ≡ true → (k : ℕ) → i ≤ k → k < i + n → (least ≤ (f k).start) × ((f k).start ≤ (f k).end)
  unfolding ascending_from
  rising-each least i zero e k l h = absurd (omega arith)
  rising-each least i (suc n) e k l h =
      let (a, b) = first_at least i (and_left (first-test least i) (ascending_from f ((f i).end + 2) (suc i) n) e) in
      by-eq k i
      (λ z. rw z (a, b))
      (λ z. let (p, q) = rising-each ((f i).end + 2) (suc i) n (and_right (first-test least i) (ascending_from f ((f i).end + 2) (suc i) n) e) k (omega arith) (omega arith) in (omega arith, q))

  rising-apart : (least i n : ℕ) → ascending_from f least i n ≡ true → (k j : ℕ) → i ≤ k → k < j → j < i + n → (f k).end + 2 ≤ (f j).start
  unfolding ascending_from
  rising-apart least i zero e k j l m h = absurd (omega arith)
  rising-apart least i (suc n) e k j l m h =
      let rest : ascending_from f ((f i).end + 2) (suc i) n ≡ true = and_right (first-test least i) (ascending_from f ((f i).end + 2) (suc i) n) e in
      by-eq k i
      (λ z. rw z (rising-each ((f i).end + 2) (suc i) n rest j (omega arith) (omega arith)).0)
      (λ z. rising-apart ((f i).end + 2) (suc i) n rest k j (omega arith) m (omega arith))

pub well_inside : (ps : List (List ℕ)) (used : ℕ) → well_formed_ranges (ranges_in ps) used ≡ true → used ≤ length ps
unfolding well_formed_ranges
well_inside ps used e = rw (ranges-length ps) at (leb-true used (length (ranges_in ps)) (and_left (leb used (length (ranges_in ps))) (ascending (take used (ranges_in ps))) e))

pub well_rising : (ps : List (List ℕ)) (used : ℕ) → well_formed_ranges (ranges_in ps) used ≡ true → Rising (range_at ps) used
well_rising ps used e =
    let z : used - 0 ≡ used = omega arith in
    let a : ascending_from (range_at ps) 0 0 used ≡ true = rw z at (sym (well_start ps used (well_inside ps used e)) ∙ e) in
    record {
      each = λ k h. (rising-each (range_at ps) 0 0 used a k (omega arith) (omega arith)).1;
      apart = λ k j h l. rising-apart (range_at ps) 0 0 used a k j (omega arith) h (omega arith);
    }

-- those that end before a line are the first
pub ends_fall : (ps : List (List ℕ)) (used line : ℕ) → well_formed_ranges (ranges_in ps) used ≡ true → Falling (EndsBefore ps line) used
ends_fall ps used line e k j l h t =
    let ρ = well_rising ps used e in
    let before : suc (range_at ps j).end < line = ltb-true (suc (range_at ps j).end) line t in
    by-eq k j
    (λ z. rw z t)
    (λ z. lt-ltb (suc (range_at ps k).end) line (omega (arith, ρ.apart k j (omega arith) h, ρ.each j h)))

module _ (ps : List (List ℕ)) (used line lo hi : ℕ) (well : well_formed_ranges (ranges_in ps) used ≡ true) (η : SearchBounds (EndsBefore ps line) used lo hi) (open-still : lo < hi)
    (r : Range) (is : r ≡ range_at ps (lo + (hi - lo) / 2)) where
  ended : r.end ≡ (range_at ps (lo + (hi - lo) / 2)).end
  ended = ap (λ (x : Range). x.end) is

  pub ends-up : r.end + 1 < line → SearchBounds (EndsBefore ps line) used (lo + (hi - lo) / 2 + 1) hi
  ends-up h =
      bounds-up (ends_fall ps used line well) η (lo + (hi - lo) / 2) (omega arith) (omega arith)
      (lt-ltb (suc (range_at ps (lo + (hi - lo) / 2)).end) line (omega (arith, ended)))

  pub ends_down : line ≤ r.end + 1 → SearchBounds (EndsBefore ps line) used lo (lo + (hi - lo) / 2)
  ends_down h =
      bounds_down (ends_fall ps used line well) η (lo + (hi - lo) / 2) (omega arith) (omega arith)
      (le-ltb (suc (range_at ps (lo + (hi - lo) / 2)).end) line (omega (arith, ended)))
