-- Laws of rows in the order of an index: what a step does to the words is what its contract says of the rows. Assumes nothing.
use mathlib.Core.Path.{◌≡◌, sym, ap, ◌∙◌}
use mathlib.Core.Logic.{◌≢◌}
use mathlib.Core.List.{List}
use Prim.Native.Nat.{ℕ, ◌+◌, ◌*◌, ◌-◌, ◌≤◌, ◌<◌}
use native.Mathlib.Omega.{arith}
use lib.ListN.{length, set, length-set}
use lib.Seq.{get_or-set_same, get_or-set_other}
use Rattle.table.specs.declared.Row.{Row}
use Rattle.table.specs.Places.{Unchanged, Updated, RowsMoved, BlocksSwapped}
use Rattle.table.specs.Rows.{row_words, word, row_at, UnchangedOutside, Moved, Written}
use Rattle.table.specs.Store.{number, Store, row}
use Rattle.table.proofs.PlaceLaws.{by-eq, moved_along, moved-index, swapped_along, exchanged_index}
use Rattle.table.proofs.WordLaws.{same_row, other_row}

-- the index's words are written, the rows are not: a place that has the number of another has its row
renumbered : {ws ws' : List ℕ} {index used lo hi : ℕ} → Store ws index used → UnchangedOutside ws ws' lo hi → index ≤ lo
    → (k m : ℕ) → m < used → number ws' index k ≡ number ws index m → row ws' index k ≡ row ws index m
unfolding row
renumbered {ws} {ws'} {index} σ κ h k m l e = ap (row_at ws') e ∙ same_row κ (number ws index m) (omega (arith, σ.numbers.below m l, σ.rows_end))

-- ---- words behind the index are written

module _ {ws ws' : List ℕ} {index used lo hi : ℕ} (σ : Store ws index used) (κ : UnchangedOutside ws ws' lo hi) (h : index + used ≤ lo) where
  behind : (k : ℕ) → k < used → number ws' index k ≡ number ws index k
  behind k l = κ.below (index + k) (omega arith)

  pub behind-store : length ws' ≡ length ws → Store ws' index used
  behind-store e = record {
    rows_end = σ.rows_end;
    index_end = omega (arith, σ.index_end);
    numbers = record {
      below = λ k p. rw (behind k p) (σ.numbers.below k p);
      once = λ k m p q x. σ.numbers.once k m p q (sym (behind k p) ∙ x ∙ behind m q);
    };
  }

  pub behind-rows : Unchanged (row ws index) (row ws' index) 0 used
  behind-rows k l p = renumbered σ κ (omega arith) k k p (behind k p)

-- ---- one more number at the end

module _ {ws : List ℕ} (index used : ℕ) (σ : Store ws index used) (h : (used + 1) * row_words ≤ index) (l : index + used < length ws) where
  last : number (set ws (index + used) used) index used ≡ used
  last = get_or-set_same ws (index + used) used 0 l

  older : (k : ℕ) → k < used → number (set ws (index + used) used) index k ≡ number ws index k
  older k p = get_or-set_other ws (index + used) (index + k) used 0 (omega arith)

  -- an older number is not the new one
  apart : (k j : ℕ) → k < used → j ≡ used → number (set ws (index + used) used) index k ≢ number (set ws (index + used) used) index j
  apart k j p e f =
      let g : number ws index k ≡ used = sym (older k p) ∙ f ∙ ap (number (set ws (index + used) used) index) e ∙ last in
      omega (arith, σ.numbers.below k p)

  pub grown : Store (set ws (index + used) used) index (used + 1)
  grown = record {
    rows_end = h;
    index_end = simp length-set (omega arith);
    numbers = record {
      below = λ k p. by-eq k used (λ e. rw (e, last) (omega arith)) (λ n. rw (older k (omega arith)) (omega (arith, σ.numbers.below k (omega arith))));
      once = λ k j p q e. by-eq k used
          (λ x. by-eq j used (λ y. omega arith) (λ y. absurd (apart j k (omega arith) x (sym e))))
          (λ x. by-eq j used (λ y. absurd (apart k j (omega arith) y e))
          (λ y. σ.numbers.once k j (omega arith) (omega arith) (sym (older k (omega arith)) ∙ e ∙ older j (omega arith))));
    };
  }

  pub grown_kept : UnchangedOutside ws (set ws (index + used) used) (index + used) (index + used + 1)
  grown_kept = record { below = λ j i. get_or-set_other ws (index + used) j used 0 (omega arith); above = λ j i. get_or-set_other ws (index + used) j used 0 (omega arith) }

  pub grown_rows : Unchanged (row ws index) (row (set ws (index + used) used) index) 0 used
  grown_rows k p q = renumbered σ grown_kept (omega arith) k k q (older k q)

-- ---- a row is written, and the numbers stay

-- rows are written below the index
pub same_numbers : {ws ws' : List ℕ} {index used : ℕ} → Store ws index used → length ws' ≡ length ws → ((k : ℕ) → number ws' index k ≡ number ws index k) → Store ws' index used
same_numbers σ e same = record {
  rows_end = σ.rows_end;
  index_end = omega (arith, σ.index_end);
  numbers = record {
    below = λ k p. rw (same k) (σ.numbers.below k p);
    once = λ k m p q x. σ.numbers.once k m p q (sym (same k) ∙ x ∙ same m);
  };
}

pub written-numbers : {ws ws' : List ℕ} {index j : ℕ} {r : Row} → Written ws ws' j r → j * row_words + row_words ≤ index → (k : ℕ) → number ws' index k ≡ number ws index k
written-numbers {index = index} w h k = w.kept.above (index + k) (omega arith)

module _ {ws ws' : List ℕ} {index used i : ℕ} {r : Row} (σ : Store ws index used) (l : i < used) (w : Written ws ws' (number ws index i) r) where
  same : (k : ℕ) → number ws' index k ≡ number ws index k
  same = written-numbers w (omega (arith, σ.numbers.below i l, σ.rows_end))

  pub put_store : length ws' ≡ length ws → Store ws' index used
  put_store e = same_numbers σ e same

  pub put_row : Updated (row ws index) (row ws' index) used i r
  unfolding row
  put_row = record {
    there = ap (row_at ws') (same i) ∙ w.there;
    others = λ k p n. ap (row_at ws') (same k) ∙ other_row w (number ws index k) (λ x. n (σ.numbers.once k i p l x));
  }

-- ---- a block of the index is moved

module _ {ws ws' : List ℕ} {index used to from n : ℕ} (σ : Store ws index used) (h : to ≤ from) (l : from + n ≤ used)
    (β : RowsMoved (number ws index) (number ws' index) used to from n) where
  pub moved_store : length ws' ≡ length ws → Store ws' index used
  moved_store e = record {
    rows_end = σ.rows_end;
    index_end = omega (arith, σ.index_end);
    numbers = moved-index h l β σ.numbers;
  }

  pub moved-rows : {hi : ℕ} → UnchangedOutside ws ws' index hi → RowsMoved (row ws index) (row ws' index) used to from n
  moved-rows κ = moved_along (row ws index) (row ws' index) h l (renumbered σ κ (omega arith)) β

-- one number is taken out, those between go up, and it is put in front
module _ {ws ws₁ : List ℕ} (index to from : ℕ) (h : to ≤ from) (l : index + from < length ws) (e : length ws₁ ≡ length ws)
    (μ : Moved ws ws₁ (index + to) (index + to + 1) (from - to)) where
  abbrev moved : List ℕ
  moved = set ws₁ (index + to) (word ws (index + from))

  pub one_kept : UnchangedOutside ws moved index (index + from + 1)
  one_kept = record {
    below = λ j p. get_or-set_other ws₁ (index + to) j (word ws (index + from)) 0 (omega arith) ∙ μ.kept.below j (omega arith);
    above = λ j p. get_or-set_other ws₁ (index + to) j (word ws (index + from)) 0 (omega arith) ∙ μ.kept.above j (omega arith);
  }

  pub one-moved : (used : ℕ) → RowsMoved (number ws index) (number moved index) used to from 1
  one-moved used = record {
    below = λ k p q. get_or-set_other ws₁ (index + to) (index + k) (word ws (index + from)) 0 (omega arith) ∙ μ.kept.below (index + k) (omega arith);
    there = λ k m p q x.
        let y : m ≡ from = omega arith in
        let z : k ≡ to = omega arith in
        rw (y, z) (get_or-set_same ws₁ (index + to) (word ws (index + from)) 0 (omega arith));
    up = λ k m p q x. get_or-set_other ws₁ (index + to) (index + k) (word ws (index + from)) 0 (omega arith) ∙ μ.shifted (index + k) (index + m) (omega arith) (omega arith) (omega arith);
    above = λ k p q. get_or-set_other ws₁ (index + to) (index + k) (word ws (index + from)) 0 (omega arith) ∙ μ.kept.above (index + k) (omega arith);
  }

-- n numbers are taken out to the spare words, those between go up, and they are put in front
module _ {ws ws₁ ws₂ ws₃ : List ℕ} (index used to from : ℕ) {n spare : ℕ} (h : to ≤ from) (l : from + n ≤ used) (s : index + used ≤ spare)
    (μ₁ : Moved ws ws₁ (index + from) spare n) (μ₂ : Moved ws₁ ws₂ (index + to) (index + to + n) (from - to)) (μ₃ : Moved ws₂ ws₃ spare (index + to) n) where
  pub block_kept : UnchangedOutside ws ws₃ index (spare + n)
  block_kept = record {
    below = λ j p. μ₃.kept.below j (omega arith) ∙ μ₂.kept.below j (omega arith) ∙ μ₁.kept.below j (omega arith);
    above = λ j p. μ₃.kept.above j (omega arith) ∙ μ₂.kept.above j (omega arith) ∙ μ₁.kept.above j (omega arith);
  }

  pub block_moved : RowsMoved (number ws index) (number ws₃ index) used to from n
  block_moved = record {
    below = λ k p q. μ₃.kept.below (index + k) (omega arith) ∙ μ₂.kept.below (index + k) (omega arith) ∙ μ₁.kept.below (index + k) (omega arith);
    there = λ k m p q e.
        let j = spare + (k - to) in
        μ₃.shifted (index + k) j (omega arith) (omega arith) (omega arith) ∙ μ₂.kept.above j (omega arith) ∙ μ₁.shifted j (index + m) (omega arith) (omega arith) (omega arith);
    up = λ k m p q e. μ₃.kept.above (index + k) (omega arith) ∙ μ₂.shifted (index + k) (index + m) (omega arith) (omega arith) (omega arith) ∙ μ₁.kept.below (index + m) (omega arith);
    above = λ k p q. μ₃.kept.above (index + k) (omega arith) ∙ μ₂.kept.above (index + k) (omega arith) ∙ μ₁.kept.below (index + k) (omega arith);
  }

-- ---- two blocks of the index change places

module _ {ws ws' : List ℕ} {index used lo mid : ℕ} (n : ℕ) (σ : Store ws index used) (h : lo + n ≤ mid) (l : mid + n ≤ used)
    (τ : BlocksSwapped (number ws index) (number ws' index) used lo (lo + n) mid (mid + n)) where
  pub exchanged_store : length ws' ≡ length ws → Store ws' index used
  exchanged_store e = record {
    rows_end = σ.rows_end;
    index_end = omega (arith, σ.index_end);
    numbers = exchanged_index n h l τ σ.numbers;
  }

  pub exchanged_rows : {hi : ℕ} → UnchangedOutside ws ws' index hi → BlocksSwapped (row ws index) (row ws' index) used lo (lo + n) mid (mid + n)
  exchanged_rows κ = swapped_along (row ws index) (row ws' index) (omega arith) h (omega arith) l (renumbered σ κ (omega arith)) τ

-- the first n are taken out to the spare words, the others come in their place, and they are put in place of those
module _ {ws ws₁ ws₂ ws₃ : List ℕ} (index used lo mid : ℕ) {n spare : ℕ} (h : lo + n ≤ mid) (l : mid + n ≤ used) (s : index + used ≤ spare)
    (μ₁ : Moved ws ws₁ (index + lo) spare n) (μ₂ : Moved ws₁ ws₂ (index + mid) (index + lo) n) (μ₃ : Moved ws₂ ws₃ spare (index + mid) n) where
  pub swap_kept : UnchangedOutside ws ws₃ index (spare + n)
  swap_kept = record {
    below = λ j p. μ₃.kept.below j (omega arith) ∙ μ₂.kept.below j (omega arith) ∙ μ₁.kept.below j (omega arith);
    above = λ j p. μ₃.kept.above j (omega arith) ∙ μ₂.kept.above j (omega arith) ∙ μ₁.kept.above j (omega arith);
  }

  pub swap_swapped : BlocksSwapped (number ws index) (number ws₃ index) used lo (lo + n) mid (mid + n)
  swap_swapped = record {
    below = λ k p q. μ₃.kept.below (index + k) (omega arith) ∙ μ₂.kept.below (index + k) (omega arith) ∙ μ₁.kept.below (index + k) (omega arith);
    third = λ k m p q e. μ₃.kept.below (index + k) (omega arith) ∙ μ₂.shifted (index + k) (index + m) (omega arith) (omega arith) (omega arith) ∙ μ₁.kept.below (index + m) (omega arith);
    second = λ k m p q e.
        let z : k ≡ m = omega arith in
        rw z (μ₃.kept.below (index + m) (omega arith) ∙ μ₂.kept.above (index + m) (omega arith) ∙ μ₁.kept.below (index + m) (omega arith));
    first = λ k m p q e.
        let j = spare + (k - mid) in
        μ₃.shifted (index + k) j (omega arith) (omega arith) (omega arith) ∙ μ₂.kept.above j (omega arith) ∙ μ₁.shifted j (index + m) (omega arith) (omega arith) (omega arith);
    above = λ k p q. μ₃.kept.above (index + k) (omega arith) ∙ μ₂.kept.above (index + k) (omega arith) ∙ μ₁.kept.below (index + k) (omega arith);
  }
