-- What holds of each two of a list, the first of them before the second. Assumes nothing.
use Prim.Native.Nat.{ℕ, zero, suc, ◌<◌}
use mathlib.Core.Bool.{Bool, true, false}
use mathlib.Core.List.{List, [], ◌∷◌}
use native.Mathlib.Omega.{arith}
use Rattle.table.specs.Places.{tabulate}
use Rattle.std.specs.Prelude.{if◌then◌else◌}
use Rattle.model.specs.Lists.{filter}
use Rattle.model.proofs.ListLaws.{All, all_select}
use Rattle.table_item.proofs.AllLaws.{all-tabulate}

pub all_at_lem : {A : Type 0} (P : A → Type 0) (f : ℕ → A) (n : ℕ) → All P (tabulate f n) → (k : ℕ) → k < n → P (f k)
unfolding tabulate
all_at_lem P f zero h k l = absurd (omega arith)
all_at_lem P f (suc n) h zero l = h.0
all_at_lem P f (suc n) h (suc k) l = all_at_lem P (λ i. f (suc i)) n h.1 k (omega arith)

module _ {A : Type 0} (R : A → A → Type 0) where
  abbrev pub Pairs : List A → Type 0
  Pairs [] = Unit {0}
  Pairs (x ∷ xs) = All (R x) xs × Pairs xs

  pub pairs-tabulate : (f : ℕ → A) (n : ℕ) → ((i j : ℕ) → i < j → j < n → R (f i) (f j)) → Pairs (tabulate f n)
  unfolding tabulate
  pairs-tabulate f zero h = tt
  pairs-tabulate f (suc n) h = (
    all-tabulate (R (f 0)) (λ k. f (suc k)) n (λ k l. h 0 (suc k) (omega arith) (omega arith)),
    pairs-tabulate (λ k. f (suc k)) n (λ i j l m. h (suc i) (suc j) (omega arith) (omega arith)),
  )

  pub pairs_at : (f : ℕ → A) (n : ℕ) → Pairs (tabulate f n) → (i j : ℕ) → i < j → j < n → R (f i) (f j)
  unfolding tabulate
  pairs_at f zero h i j l m = absurd (omega arith)
  pairs_at f (suc n) h i zero l m = absurd (omega arith)
  pairs_at f (suc n) h zero (suc j) l m = all_at_lem (R (f 0)) (λ k. f (suc k)) n h.0 j (omega arith)
  pairs_at f (suc n) h (suc i) (suc j) l m = pairs_at (λ k. f (suc k)) n h.1 i j (omega arith) (omega arith)

  pub pairs_select : (test : A → Bool) (l : List A) → Pairs l → Pairs (filter test l)
  unfolding filter
  pairs_select test [] h = tt
  pairs_select test (x ∷ l) h = go (test x) (pairs_select test l h.1)
    where
      go : (b : Bool) → Pairs (filter test l) → Pairs (if b then x ∷ filter test l else filter test l)
      go true r = (all_select (R x) test l h.0, r)
      go false r = r
