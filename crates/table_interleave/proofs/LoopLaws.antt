-- The loop of `interleave`: from the last of the p to the first, it moves up those of the n that belong behind it.
-- Assumes nothing.
use mathlib.Core.Path.{◌≡◌, ap, ◌∙◌}
use mathlib.Core.List.{List}
use Prim.Native.Nat.{ℕ, ◌+◌, ◌-◌, ◌≤◌, ◌<◌}
use native.Mathlib.Omega.{arith}
use lib.ListN.{length, set, length-set}
use lib.Seq.{get_or-set_same, get_or-set_other}
use Rattle.table.specs.Rows.{word, UnchangedOutside, Moved}
use Rattle.table.specs.Store.{number, Store, row}
use Rattle.table.proofs.PlaceLaws.{by-eq, by-lt}
use Rattle.table_interleave.specs.Interleaved.{Ascending, CountBefore, Interleaved}
use Rattle.table_interleave.proofs.InterleavedLaws.{rising_as, interleaved_as, interleaved_store, interleaved_rows}

-- where the words are: the index, and behind it the p places and room for as many numbers
pub record Fits (ws : List ℕ) (index used at n p spare : ℕ) : Type 0 where
  pub rows : at + n + p ≤ used
  pub behind : index + used ≤ spare
  pub room : spare + p + p ≤ length ws
  pub rising : Ascending (λ j. word ws (spare + j)) n p

-- the p from the j-th on are at their positions, and so are the n from hi on
pub record Interleaving (ws₀ ws : List ℕ) (index used at n p spare j hi : ℕ) : Type 0 where
  pub size : length ws ≡ length ws₀
  pub most : j ≤ p
  pub top : hi ≤ n
  pub low : (k : ℕ) → k < j → word ws₀ (spare + k) ≤ hi
  pub high : (k : ℕ) → j ≤ k → k < p → hi ≤ word ws₀ (spare + k)
  pub places : (k : ℕ) → k < p → word ws (spare + k) ≡ word ws₀ (spare + k)
  pub saved : (k : ℕ) → k < p → word ws (spare + p + k) ≡ number ws₀ index (at + n + k)
  pub below : (k : ℕ) → k < index + (at + hi) → word ws k ≡ word ws₀ k
  pub new : (k : ℕ) → j ≤ k → k < p → number ws index (at + word ws₀ (spare + k) + k) ≡ number ws₀ index (at + n + k)
  pub old : (i c : ℕ) → hi ≤ i → i < n → CountBefore (λ k. word ws₀ (spare + k)) p i c → number ws index (at + i + c) ≡ number ws₀ index (at + i)
  pub above : (k : ℕ) → at + n + p ≤ k → k < used → number ws index k ≡ number ws₀ index k
  pub behind : (k : ℕ) → spare + p + p ≤ k → word ws k ≡ word ws₀ k

-- the numbers of the p are saved behind their places
module _ {ws ws₀ : List ℕ} {index used at n p spare : ℕ} (φ : Fits ws index used at n p spare) (e : length ws₀ ≡ length ws)
    (μ : Moved ws ws₀ (index + at + n) (spare + p) p) where
  same-places : (k : ℕ) → k < p → word ws₀ (spare + k) ≡ word ws (spare + k)
  same-places k l = μ.kept.below (spare + k) (omega arith)

  same_numbers : (k : ℕ) → k < used → number ws₀ index k ≡ number ws index k
  same_numbers k l = μ.kept.below (index + k) (omega (arith, φ.behind))

  pub saved_fits : Fits ws₀ index used at n p spare
  saved_fits = record { rows = φ.rows; behind = φ.behind; room = omega (arith, φ.room); rising = rising_as same-places φ.rising }

module _ {ws₀ ws : List ℕ} {index used at n p spare : ℕ} (φ : Fits ws₀ index used at n p spare) where
  module _ {before hi : ℕ} (j : ℕ) (place : ℕ) (was : before ≡ j + 1) (η : Interleaving ws₀ ws index used at n p spare before hi)
      (e : place ≡ word ws (spare + j)) where
    l : j < p
    l = omega (arith, η.most)

    is-place : place ≡ word ws₀ (spare + j)
    is-place = e ∙ η.places j l

    pub place-low : place ≤ hi
    place-low = omega (arith, is-place, η.low j (omega arith))

    module _ {ws₁ : List ℕ} (size₁ : length ws₁ ≡ length ws) (μ : Moved ws ws₁ (index + at + place) (index + at + place + j + 1) (hi - place)) where
      abbrev ws₂ : List ℕ
      ws₂ = set ws₁ (index + at + place + j) (word ws₁ (spare + p + j))

      -- words that were not written to
      lower : (k : ℕ) → k < index + at + place + j → word ws₂ k ≡ word ws k
      lower k m = get_or-set_other ws₁ (index + at + place + j) k (word ws₁ (spare + p + j)) 0 (omega arith) ∙ μ.kept.below k (omega arith)

      higher : (k : ℕ) → index + at + hi + j + 1 ≤ k → word ws₂ k ≡ word ws k
      higher k m =
          get_or-set_other ws₁ (index + at + place + j) k (word ws₁ (spare + p + j)) 0 (omega (arith, place-low))
          ∙ μ.kept.above k (omega (arith, place-low))

      -- one of the n that belongs behind the j-th of the p
      up : (i : ℕ) → place ≤ i → i < hi → number ws₂ index (at + i + (j + 1)) ≡ number ws₀ index (at + i)
      up i a b =
          get_or-set_other ws₁ (index + at + place + j) (index + (at + i + (j + 1))) (word ws₁ (spare + p + j)) 0 (omega arith)
          ∙ μ.shifted (index + (at + i + (j + 1))) (index + (at + i)) (omega arith) (omega arith) (omega arith)
          ∙ η.below (index + (at + i)) (omega arith)

      -- the j-th
      put : number ws₂ index (at + place + j) ≡ number ws₀ index (at + n + j)
      put =
          ap (word ws₂) (let z : index + (at + place + j) ≡ index + at + place + j = omega arith in z)
          ∙ get_or-set_same ws₁ (index + at + place + j) (word ws₁ (spare + p + j)) 0
          (omega (arith, size₁, η.size, η.top, place-low, φ.rows, φ.behind, φ.room))
          ∙ μ.kept.above (spare + p + j) (omega (arith, η.top, place-low, φ.rows, φ.behind))
          ∙ η.saved j l

      -- one of the n behind the j-th of the p has more than j of the p before it
      above-count : (i c : ℕ) → place ≤ i → CountBefore (λ k. word ws₀ (spare + k)) p i c → j < c
      above-count i c a r = by-lt j c (λ z. z) (λ z. absurd (omega (arith, is-place, r.rest j z l)))

      pub interleaving_next : Interleaving ws₀ ws₂ index used at n p spare j place
      interleaving_next = record {
        size = simp length-set (size₁ ∙ η.size);
        most = omega arith;
        top = omega (arith, place-low, η.top);
        low = λ k a. omega (arith, is-place, φ.rising.rising k j (omega arith) l);
        high = λ k a b. omega (arith, is-place, φ.rising.rising j k a b);
        places = λ k a. higher (spare + k) (omega (arith, η.top, φ.rows, φ.behind)) ∙ η.places k a;
        saved = λ k a. higher (spare + p + k) (omega (arith, η.top, φ.rows, φ.behind)) ∙ η.saved k a;
        below = λ k a. lower k (omega arith) ∙ η.below k (omega (arith, place-low));
        new = λ k a b. by-eq k j
            (λ z. rw (z, ← is-place) put)
            (λ z. higher (index + (at + word ws₀ (spare + k) + k)) (omega (arith, η.high k (omega arith) b)) ∙ η.new k (omega arith) b);
        old = λ i c a b r. by-lt i hi
            (λ z. let y : c ≡ j + 1 = one_rank i c a z r in rw y (up i a z))
            (λ z. higher (index + (at + i + c)) (omega (arith, above-count i c a r)) ∙ η.old i c z b r);
        above = λ k a b. higher (index + k) (omega (arith, η.top)) ∙ η.above k a b;
        behind = λ k a. higher k (omega (arith, η.top, φ.rows, φ.behind)) ∙ η.behind k a;
      }
        where
          -- and where it was before the later ones, it has j + 1
          one_rank : (i c : ℕ) → place ≤ i → i < hi → CountBefore (λ k. word ws₀ (spare + k)) p i c → c ≡ j + 1
          one_rank i c a b r = by-lt (j + 1) c
              (λ z. absurd (omega (arith, r.past (j + 1) z, η.high (j + 1) (omega arith) (omega (arith, r.most)))))
              (λ z. omega (arith, above-count i c a r))

  module _ {j hi : ℕ} (done : j ≤ 0) (η : Interleaving ws₀ ws index used at n p spare j hi) where
    saved_interleaved : Interleaved (number ws₀ index) (number ws index) (λ k. word ws₀ (spare + k)) used at n p
    saved_interleaved = record {
      below = λ k l m. η.below (index + k) (omega arith);
      new = λ k l. η.new k (omega arith) l;
      old = λ i c l r. by-lt i hi
          (λ z. let y : c ≡ 0 = none i c z r in
          rw y (ap (number ws index) (let x : at + i + 0 ≡ at + i = omega arith in x) ∙ η.below (index + (at + i)) (omega arith)))
          (λ z. η.old i c z l r);
      above = η.above;
    }
      where
        none : (i c : ℕ) → i < hi → CountBefore (λ k. word ws₀ (spare + k)) p i c → c ≡ 0
        none i c l r = by-lt 0 c (λ z. absurd (omega (arith, r.past 0 z, η.high 0 (omega arith) (omega (arith, r.most))))) (λ z. omega arith)

-- all of the p are at their positions
module _ {ws ws₀ ws' : List ℕ} {index used at n p spare j hi : ℕ} (σ : Store ws index used) (φ : Fits ws index used at n p spare)
    (e : length ws₀ ≡ length ws)
    (μ : Moved ws ws₀ (index + at + n) (spare + p) p) (done : j ≤ 0) (η : Interleaving ws₀ ws' index used at n p spare j hi) where
  numbers_interleaved : Interleaved (number ws index) (number ws' index) (λ k. word ws (spare + k)) used at n p
  numbers_interleaved = interleaved_as φ.rows (same_numbers φ e μ) (same-places φ e μ) (saved_interleaved (saved_fits φ e μ) done η)

  pub interleaving_store : Store ws' index used
  interleaving_store = interleaved_store σ φ.rising φ.rows numbers_interleaved (η.size ∙ e)

  pub interleaving_rows : Interleaved (row ws index) (row ws' index) (λ k. word ws (spare + k)) used at n p
  interleaving_rows = interleaved_rows σ φ.rising φ.rows numbers_interleaved kept
    where
      kept : UnchangedOutside ws ws' index (spare + p + p)
      kept = record {
        below = λ k l. η.below k (omega arith) ∙ μ.kept.below k (omega (arith, φ.behind));
        above = λ k l. η.behind k l ∙ μ.kept.above k (omega arith);
      }
