-- Laws of `tabulate`: what is said place by place, as a list. Assumes nothing.
use mathlib.Core.Path.{◌≡◌, refl, sym, ap, ap₂, ◌∙◌}
use mathlib.Core.Logic.{◌≢◌}
use mathlib.Core.List.{List, ◌∷◌, ◌++◌, map}
use Prim.Native.Nat.{ℕ, zero, suc, ◌+◌, ◌≤◌, ◌<◌}
use native.Mathlib.Nat.{zero-add}
use native.Mathlib.Omega.{arith}
use lib.ListN.{length, get_or, set, take, drop}
use Rattle.table.specs.Places.{tabulate}

module _ {A : Type 0} where
  pub length-tabulate : (f : ℕ → A) (n : ℕ) → length (tabulate f n) ≡ n
  unfolding tabulate
  length-tabulate f zero = refl
  length-tabulate f (suc n) = ap suc (length-tabulate (λ i. f (suc i)) n)

  pub tabulate_cong : (g f : ℕ → A) (n : ℕ) → ((k : ℕ) → k < n → g k ≡ f k) → tabulate g n ≡ tabulate f n
  unfolding tabulate
  tabulate_cong g f zero h = refl
  tabulate_cong g f (suc n) h = ap₂ ◌∷◌ (h 0 (omega arith)) (tabulate_cong (λ i. g (suc i)) (λ i. f (suc i)) n (λ k l. h (suc k) (omega arith)))

  pub get_d_tabulate : (f : ℕ → A) (n i : ℕ) (d : A) → i < n → get_or (tabulate f n) i d ≡ f i
  unfolding tabulate
  get_d_tabulate f zero i d h = absurd (omega arith)
  get_d_tabulate f (suc n) zero d h = refl
  get_d_tabulate f (suc n) (suc i) d h = get_d_tabulate (λ k. f (suc k)) n i d (omega arith)

  -- x at place i, and what was there and after it one place up
  pub tabulate-insert : (g f : ℕ → A) (n i : ℕ) (x : A) → i ≤ n → ((k : ℕ) → k < i → g k ≡ f k) → g i ≡ x
      → ((k : ℕ) → i ≤ k → k < n → g (suc k) ≡ f k) → tabulate g (suc n) ≡ take i (tabulate f n) ++ x ∷ drop i (tabulate f n)
  unfolding tabulate
  tabulate-insert g f n zero x h below here up =
      ap₂ ◌∷◌ here (tabulate_cong (λ k. g (suc k)) f n (λ k l. up k (omega arith) l))
  tabulate-insert g f zero (suc i) x h below here up = absurd (omega arith)
  tabulate-insert g f (suc n) (suc i) x h below here up =
      ap₂ ◌∷◌ (below 0 (omega arith))
      (tabulate-insert (λ k. g (suc k)) (λ k. f (suc k)) n i x (omega arith) (λ k l. below (suc k) (omega arith)) here (λ k l m. up (suc k) (omega arith) (omega arith)))

  -- x at place i, in place of what was there
  pub tabulate-set : (g f : ℕ → A) (n i : ℕ) (x : A) → i < n → g i ≡ x → ((k : ℕ) → k < n → k ≢ i → g k ≡ f k)
      → tabulate g n ≡ set (tabulate f n) i x
  unfolding tabulate
  tabulate-set g f zero i x h here others = absurd (omega arith)
  tabulate-set g f (suc n) zero x h here others =
      ap₂ ◌∷◌ here (tabulate_cong (λ k. g (suc k)) (λ k. f (suc k)) n (λ k l. others (suc k) (omega arith) (omega arith)))
  tabulate-set g f (suc n) (suc i) x h here others =
      ap₂ ◌∷◌ (others 0 (omega arith) (omega arith))
      (tabulate-set (λ k. g (suc k)) (λ k. f (suc k)) n i x (omega arith) here (λ k l m. others (suc k) (omega arith) (omega arith)))

  pub tabulate-split : (f : ℕ → A) (m n : ℕ) → tabulate f (m + n) ≡ tabulate f m ++ tabulate (λ k. f (m + k)) n
  unfolding tabulate
  tabulate-split f zero n = rw zero-add (tabulate_cong f (λ k. f (0 + k)) n (λ k l. ap f (sym (zero-add k))))
  tabulate-split f (suc m) n =
      let e : suc m + n ≡ suc (m + n) = omega arith in
      rw e
      (ap (λ (t : List A). f 0 ∷ t)
      (tabulate-split (λ k. f (suc k)) m n
      ∙ ap (λ (t : List A). tabulate (λ k. f (suc k)) m ++ t) (tabulate_cong (λ k. f (suc (m + k))) (λ k. f (suc m + k)) n (λ k l. ap f (let z : suc (m + k) ≡ suc m + k = omega arith in z)))))

-- three parts, one behind the other
pub tabulate_three : {A : Type 0} (f : ℕ → A) (a b c : ℕ)
    → tabulate f (a + (b + c)) ≡ tabulate f a ++ (tabulate (λ k. f (a + k)) b ++ tabulate (λ k. f (a + (b + k))) c)
tabulate_three {A} f a b c = tabulate-split f a (b + c) ∙ ap (λ (t : List A). tabulate f a ++ t) (tabulate-split (λ k. f (a + k)) b c)

pub map-tabulate : {A B : Type 0} (h : A → B) (f : ℕ → A) (n : ℕ) → map h (tabulate f n) ≡ tabulate (λ k. h (f k)) n
unfolding tabulate
map-tabulate h f zero = refl
map-tabulate h f (suc n) = ap (λ t. h (f 0) ∷ t) (map-tabulate h (λ k. f (suc k)) n)
