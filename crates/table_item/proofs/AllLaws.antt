-- What holds of each that is listed. Assumes nothing.
use Prim.Native.Nat.{ℕ, zero, suc, ◌<◌}
use native.Mathlib.Omega.{arith}
use Rattle.table.specs.Places.{tabulate}
use Rattle.model.proofs.ListLaws.{All}

module _ {A : Type 0} (P : A → Type 0) where
  pub all-tabulate : (f : ℕ → A) (n : ℕ) → ((k : ℕ) → k < n → P (f k)) → All P (tabulate f n)
  unfolding tabulate
  all-tabulate f zero h = tt
  all-tabulate f (suc n) h = (h 0 (omega arith), all-tabulate (λ k. f (suc k)) n (λ k l. h (suc k) (omega arith)))

  pub tabulate-all : (f : ℕ → A) (n : ℕ) → All P (tabulate f n) → (k : ℕ) → k < n → P (f k)
  unfolding tabulate
  tabulate-all f zero h k l = absurd (omega arith)
  tabulate-all f (suc n) h zero l = h.0
  tabulate-all f (suc n) h (suc k) l = tabulate-all (λ i. f (suc i)) n h.1 k (omega arith)
