-- Places among others. Assumes nothing.
use Prim.Native.Nat.{ℕ, ◌+◌, ◌≤◌, ◌<◌, Ordering}
use Rattle.std.specs.Prelude.{◌≡◌}
use Rattle.table.specs.Places.{Unchanged}

-- p places among n, none before an earlier one
pub record Ascending (place : ℕ → ℕ) (n p : ℕ) : Type 0 where
  pub most : (j : ℕ) → j < p → place j ≤ n
  pub rising : (i j : ℕ) → i ≤ j → j < p → place i ≤ place j

-- j of the p places are those of things that go before the i-th of the n
pub record CountBefore (place : ℕ → ℕ) (p i j : ℕ) : Type 0 where
  pub most : j ≤ p
  pub past : (k : ℕ) → k < j → place k ≤ i
  pub rest : (k : ℕ) → j ≤ k → k < p → i < place k

-- f is what each position had, g what it has: the p elements behind the n from at on are interleaved with these; the
-- j-th has place j of the n before it
module _ {A : Type 0} (f g : ℕ → A) (place : ℕ → ℕ) where
  pub record Interleaved (used at n p : ℕ) : Type 0 where
    pub below : Unchanged f g 0 at
    pub new : (j : ℕ) → j < p → g (at + place j + j) ≡ f (at + n + j)
    -- one of the n goes up by the number j of those that go before it
    pub old : (i j : ℕ) → i < n → CountBefore place p i j → g (at + i + j) ≡ f (at + i)
    pub above : Unchanged f g (at + n + p) used

-- place j is how many of the n come before the j-th of the p, by their keys; none of the n has its key
module _ {E K : Type 0} (key : E → K) (cmp : K → K → Ordering) (x y : ℕ → E) (place : ℕ → ℕ) where
  pub record InsertPositions (n p : ℕ) : Type 0 where
    pub most : (j : ℕ) → j < p → place j ≤ n
    pub past : (j i : ℕ) → j < p → i < place j → cmp (key (x i)) (key (y j)) ≡ Ordering.lt
    pub rest : (j i : ℕ) → j < p → place j ≤ i → i < n → cmp (key (y j)) (key (x i)) ≡ Ordering.lt
