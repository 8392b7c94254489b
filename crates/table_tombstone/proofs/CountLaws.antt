-- How many of the first rows are live: one more row, each live and each deleted row by its count, and the live rows in
-- order. Assumes nothing.
use mathlib.Core.Path.{◌≡◌, refl, sym, ap, ◌∙◌}
use mathlib.Core.Bool.{Bool, true, false}
use mathlib.Core.List.{List, [], ◌∷◌, ◌++◌, append-nil}
use Prim.Native.Nat.{ℕ, zero, suc, ◌+◌, ◌-◌, ◌≤◌, ◌<◌}
use native.Mathlib.Nat.{add-zero}
use native.Mathlib.Numerals.{add-one}
use native.Mathlib.Omega.{arith}
use lib.ListN.{length, length-append}
use Rattle.std.specs.Prelude.{if◌then◌else◌}
use Rattle.model.specs.Lists.{filter}
use Rattle.table.specs.declared.Row.{Row}
use Rattle.table.specs.Places.{tabulate}
use Rattle.table.proofs.PlaceLaws.{by-lt}
use Rattle.table.proofs.TabulateLaws.{tabulate-split}
use Rattle.table.proofs.BinarySearch.{by-test}
use Rattle.table_tombstone.specs.Live.{is_live, one_for, live_rows}
use Rattle.table_tombstone.proofs.LiveLaws.{live-split, live-most}

-- how many of the first n rows are live
unfoldable pub live-count : (ℕ → Row) → ℕ → ℕ
live-count f n = length (live_rows f n)

module _ (f : ℕ → Row) where
  pub live-count-none : live-count f 0 ≡ 0
  unfolding live-count tabulate filter
  live-count-none = refl

  pub live-count-most : (n : ℕ) → live-count f n ≤ n
  unfolding live-count
  live-count-most n = live-most f n

  -- ---- one row more

  live-last : (n : ℕ) (b : Bool) → is_live (f n) ≡ b → live_rows f (n + 1) ≡ live_rows f n ++ (if b then f n ∷ [] else [])
  unfolding tabulate filter
  live-last n b e =
      live-split f n 1
      ∙ ap (λ (r : Row). live_rows f n ++ (if is_live r then r ∷ [] else [])) (ap f (add-zero n))
      ∙ ap (λ (t : Bool). live_rows f n ++ (if t then f n ∷ [] else [])) e

  pub live-live : (n : ℕ) → is_live (f n) ≡ true → live_rows f (n + 1) ≡ live_rows f n ++ f n ∷ []
  live-live n e = live-last n true e

  pub live_deleted : (n : ℕ) → is_live (f n) ≡ false → live_rows f (n + 1) ≡ live_rows f n
  live_deleted n e = live-last n false e ∙ append-nil (live_rows f n)

  pub live-count-live : (n : ℕ) → is_live (f n) ≡ true → live-count f (n + 1) ≡ live-count f n + 1
  unfolding live-count
  live-count-live n e = ap length (live-live n e) ∙ length-append (live_rows f n) (f n ∷ [])

  pub live-count_deleted : (n : ℕ) → is_live (f n) ≡ false → live-count f (n + 1) ≡ live-count f n
  unfolding live-count
  live-count_deleted n e = ap length (live_deleted n e)

  pub live-count-next : (n : ℕ) → live-count f (n + 1) ≡ live-count f n + one_for (is_live (f n))
  live-count-next n =
      by-test (is_live (f n))
      (λ e. live-count-live n e ∙ ap (λ (b : Bool). live-count f n + one_for b) (sym e))
      (λ e. live-count_deleted n e ∙ sym (add-zero (live-count f n)) ∙ ap (λ (b : Bool). live-count f n + one_for b) (sym e))

  -- ---- rows more

  -- they add at most one each
  pub record More (k n : ℕ) : Type 0 where
    pub up : live-count f k ≤ live-count f n
    pub most : live-count f n + k ≤ live-count f k + n

  more : (k d : ℕ) → More k (k + d)
  unfolding live-count
  more k d =
      let e : length (live_rows f (k + d)) ≡ length (live_rows f k) + length (live_rows (λ j. f (k + j)) d) =
      ap length (live-split f k d) ∙ length-append (live_rows f k) (live_rows (λ j. f (k + j)) d) in
      let m : length (live_rows (λ j. f (k + j)) d) ≤ d = live-most (λ j. f (k + j)) d in
      record { up = omega arith; most = omega arith }

  pub live-count-more : (k n : ℕ) → k ≤ n → More k n
  live-count-more k n h = let e : k + (n - k) ≡ n = omega arith in rw e at (more k (n - k))

  -- a live row before the n-th adds one to the live before it, a deleted row one to the deleted
  pub live-count-past : (k n : ℕ) → k < n → is_live (f k) ≡ true → live-count f k < live-count f n
  live-count-past k n h e = omega (arith, live-count-live k e, (live-count-more (k + 1) n (omega arith)).up)

  pub deleted_past : (k n : ℕ) → k < n → is_live (f k) ≡ false → live-count f n + k < live-count f k + n
  deleted_past k n h e = omega (arith, live-count_deleted k e, (live-count-more (k + 1) n (omega arith)).most)

  -- ---- each live and each deleted row, by how many of its kind come before it

  pub live_at : (n j : ℕ) → j < live-count f n → (m : ℕ) × (m < n) × (is_live (f m) ≡ true) × (live-count f m ≡ j)
  live_at zero j h = absurd (omega (arith, live-count-none))
  live_at (suc n) j h =
      by-lt j (live-count f n)
      (λ l. wider (live_at n j l))
      (λ l. by-test (is_live (f n))
      (λ e. (n, omega arith, e, omega (arith, next, live-count-live n e)))
      (λ e. absurd (omega (arith, next, live-count_deleted n e))))
    where
      next : live-count f (suc n) ≡ live-count f (n + 1)
      next = ap (live-count f) (sym (add-one n))

      wider : (m : ℕ) × (m < n) × (is_live (f m) ≡ true) × (live-count f m ≡ j) → (m : ℕ) × (m < suc n) × (is_live (f m) ≡ true) × (live-count f m ≡ j)
      wider (m, a, b, c) = (m, omega arith, b, c)

  pub deleted_at : (n j : ℕ) → live-count f n + j < n → (m : ℕ) × (m < n) × (is_live (f m) ≡ false) × (live-count f m + j ≡ m)
  deleted_at zero j h = absurd (omega arith)
  deleted_at (suc n) j h =
      by-lt (live-count f n + j) n
      (λ l. wider (deleted_at n j l))
      (λ l. by-test (is_live (f n))
      (λ e. absurd (omega (arith, next, live-count-live n e)))
      (λ e. (n, omega arith, e, omega (arith, next, live-count_deleted n e))))
    where
      next : live-count f (suc n) ≡ live-count f (n + 1)
      next = ap (live-count f) (sym (add-one n))

      wider : (m : ℕ) × (m < n) × (is_live (f m) ≡ false) × (live-count f m + j ≡ m) → (m : ℕ) × (m < suc n) × (is_live (f m) ≡ false) × (live-count f m + j ≡ m)
      wider (m, a, b, c) = (m, omega arith, b, c)

-- where each live row is at the count of live rows before it, the first rows are the live ones
pub gathered : (g f : ℕ → Row) (n : ℕ) → ((k : ℕ) → k < n → is_live (f k) ≡ true → g (live-count f k) ≡ f k) → tabulate g (live-count f n) ≡ live_rows f n
unfolding tabulate filter
gathered g f zero h = ap (tabulate g) (live-count-none f)
gathered g f (suc n) h =
    let before = gathered g f n (λ k l e. h k (omega arith) e) in
    ap (λ (m : ℕ). tabulate g (live-count f m)) (sym (add-one n))
    ∙ by-test (is_live (f n))
    (λ e. ap (tabulate g) (live-count-live f n e)
    ∙ tabulate-split g (live-count f n) 1
    ∙ ap (λ (r : Row). tabulate g (live-count f n) ++ r ∷ []) (ap g (add-zero (live-count f n)) ∙ h n (omega arith) e)
    ∙ ap (λ (t : List Row). t ++ f n ∷ []) before
    ∙ sym (live-live f n e))
    (λ e. ap (tabulate g) (live-count_deleted f n e) ∙ before ∙ sym (live_deleted f n e))
    ∙ ap (live_rows f) (add-one n)
