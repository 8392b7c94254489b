-- Laws of spans: pairs of a slice as a list. Assumes nothing.
use Prim.Native.Nat.{ℕ, zero, suc, ◌+◌, ◌≤◌, ◌<◌}
use native.Mathlib.Omega.{arith}
use mathlib.Core.Path.{◌≡◌, refl, ap, ap₂}
use mathlib.Core.List.{List, [], ◌∷◌, ◌++◌}
use lib.ListN.{length, set, take, replicate}
use lib.Seq.{get_or-set_same, get_or-set_other}
use Rattle.model.specs.declared.Range.{Range}
use Rattle.table.specs.Places.{Shifted}
use Rattle.line_num_pairs.specs.Pairs.{pair, range_at, span, ranges_in, RangePlaced}

pub length-span : (f : ℕ → Range) (i n : ℕ) → length (span f i n) ≡ n
unfolding span
length-span f i zero = refl
length-span f i (suc n) = ap suc (length-span f (suc i) n)

pub take-span : (f : ℕ → Range) (i m n : ℕ) → m ≤ n → take m (span f i n) ≡ span f i m
unfolding span
take-span f i zero n h = refl
take-span f i (suc m) zero h = absurd (omega arith)
take-span f i (suc m) (suc n) h = ap (λ (t : List Range). f i ∷ t) (take-span f (suc i) m n (omega arith))

pub span_shift : (g f : ℕ → Range) (i j n : ℕ) → Shifted f g j i n → span g i n ≡ span f j n
unfolding span
span_shift g f i j zero h = refl
span_shift g f i j (suc n) h =
    ap₂ ◌∷◌ (h i j (omega arith) (omega arith) (omega arith)) (span_shift g f (suc i) (suc j) n (λ k m l p e. h k m (omega arith) (omega arith) (omega arith)))

pub span-split : (f : ℕ → Range) (i m n j t : ℕ) → j ≡ i + m → t ≡ m + n → span f i t ≡ span f i m ++ span f j n
unfolding span
span-split f i zero n j t e h = let z : j ≡ i = omega arith in let y : t ≡ n = omega arith in rw (z, y)
span-split f i (suc m) n j zero e h = absurd (omega arith)
span-split f i (suc m) n j (suc t) e h = ap (λ (t : List Range). f i ∷ t) (span-split f (suc i) m n j t (omega arith) (omega arith))

pub span-zeros : (f : ℕ → Range) (i n : ℕ) → ((k : ℕ) → i ≤ k → k < i + n → f k ≡ pair 0 0) → span f i n ≡ replicate n (pair 0 0)
unfolding span
span-zeros f i zero h = refl
span-zeros f i (suc n) h = ap₂ ◌∷◌ (h i (omega arith) (omega arith)) (span-zeros f (suc i) n (λ k l m. h k (omega arith) (omega arith)))

-- the pairs used are the first of the slice
pub used-span : (ps : List (List ℕ)) (used : ℕ) → used ≤ length ps → take used (ranges_in ps) ≡ span (range_at ps) 0 used
unfolding ranges_in
used-span ps used h = take-span (range_at ps) 0 used (length ps) h

pub ranges-length : (ps : List (List ℕ)) → length (ranges_in ps) ≡ length ps
unfolding ranges_in
ranges-length ps = length-span (range_at ps) 0 (length ps)

-- a pair that is written
pub pair_placed : (ps : List (List ℕ)) (k start end : ℕ) → k < length ps → RangePlaced (range_at ps) (range_at (set ps k (start ∷ end ∷ []))) k (pair start end)
pair_placed ps k start end h = record {
  there = rw (get_or-set_same ps k (start ∷ end ∷ []) [] h);
  others = λ j n. rw (get_or-set_other ps k j (start ∷ end ∷ []) [] n);
}
