-- The sum of some of many numbers, each taken once, is at most the sum of all. Assumes nothing.
use Prim.Native.Nat.{ℕ, zero, suc, ◌+◌, ◌≤◌, ◌<◌}
use native.Mathlib.Omega.{arith}
use mathlib.Core.Path.{◌≡◌, refl, sym, ap, ◌∙◌}
use mathlib.Core.Logic.{◌≢◌}
use mathlib.Core.Bool.{cond}
use lib.Dec.{eqb}
use borrow.Author.Tests.{eq-eqb, ne_eqb}
use Rattle.table.proofs.PlaceLaws.{by-eq}

-- the first n of them
unfoldable pub total : (ℕ → ℕ) → ℕ → ℕ
total g zero = 0
total g (suc n) = total g n + g n

pub total-next : (g : ℕ → ℕ) (n : ℕ) → total g (n + 1) ≡ total g n + g n
unfolding total
total-next g n = ap (total g) (let z : n + 1 ≡ suc n = omega arith in z)

total-same : (g h : ℕ → ℕ) (n : ℕ) → ((k : ℕ) → k < n → g k ≡ h k) → total g n ≡ total h n
unfolding total
total-same g h zero e = refl
total-same g h (suc n) e = omega (arith, total-same g h n (λ k l. e k (omega arith)), e n (omega arith))

-- all but the one at x
without : (ℕ → ℕ) → ℕ → ℕ → ℕ
without g x k = cond (eqb k x) 0 (g k)

without_there : (g : ℕ → ℕ) (x : ℕ) → without g x x ≡ 0
unfolding without
without_there g x = rw (eq-eqb x x refl)

without_other : (g : ℕ → ℕ) (x k : ℕ) → k ≢ x → without g x k ≡ g k
unfolding without
without_other g x k n = rw (ne_eqb k x n)

total_without : (g : ℕ → ℕ) (x n : ℕ) → x < n → total (without g x) n + g x ≡ total g n
unfolding total
total_without g x zero l = absurd (omega arith)
total_without g x (suc n) l =
    by-eq x n
    (λ e. omega (
      arith,
      total-same (without g x) g n (λ k h. without_other g x k (λ q. omega arith)),
      ap (without g x) (sym e) ∙ without_there g x,
      ap g e,
    ))
    (λ d. omega (arith, total_without g x n (omega arith), without_other g x n (λ q. omega arith)))

pub total_some : (g f : ℕ → ℕ) (n m : ℕ) → ((i : ℕ) → i < n → f i < m) → ((i j : ℕ) → i < n → j < n → f i ≡ f j → i ≡ j) → total (λ i. g (f i)) n ≤ total g m
unfolding total
total_some g f zero m below once = omega arith
total_some g f (suc n) m below once =
    omega (
      arith,
      total-same (λ i. g (f i)) (λ i. without g (f n) (f i)) n
          (λ i l. sym (without_other g (f n) (f i) (λ e. omega (arith, once i n (omega arith) (omega arith) e)))),
      total_some (without g (f n)) f n m (λ i l. below i (omega arith)) (λ i j l h e. once i j (omega arith) (omega arith) e),
      total_without g (f n) m (below n (omega arith)),
    )
