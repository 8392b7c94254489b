-- What is said place by place: f is what each place had, g what it has. Places hold words, row numbers or rows. Assumes nothing.
use Rattle.std.specs.Prelude.{ℕ, zero, suc, ◌+◌, ◌-◌, ◌≤◌, ◌<◌, ◌≡◌, ◌≢◌, Bool, true, false, List, [], ◌∷◌}

-- f 0, f 1 and so on, n of them
unfoldable pub tabulate : {A : Type 0} → (ℕ → A) → ℕ → List A
tabulate f zero = []
tabulate f (suc n) = f 0 ∷ tabulate (λ i. f (suc i)) n

-- of the n places, a test holds at the first r and at no other
pub record PartitionPoint (test : ℕ → Bool) (n r : ℕ) : Type 0 where
  pub most : r ≤ n
  pub past : (k : ℕ) → k < r → test k ≡ true
  pub rest : (k : ℕ) → r ≤ k → k < n → test k ≡ false

-- of the n places, a test holds at those before lo and fails at those from hi on
pub record SearchBounds (test : ℕ → Bool) (n lo hi : ℕ) : Type 0 where
  pub ends : lo ≤ hi
  pub most : hi ≤ n
  pub past : (k : ℕ) → k < lo → test k ≡ true
  pub rest : (k : ℕ) → hi ≤ k → k < n → test k ≡ false

module _ {A : Type 0} (f g : ℕ → A) where
  -- nothing changed from lo up to, not including, hi
  abbrev pub Unchanged : ℕ → ℕ → Type 0
  Unchanged lo hi = (k : ℕ) → lo ≤ k → k < hi → g k ≡ f k

  -- the n places from to on have what those from from on had
  abbrev pub Shifted : ℕ → ℕ → ℕ → Type 0
  Shifted from to n = (k m : ℕ) → to ≤ k → k < to + n → m + to ≡ from + k → g k ≡ f m

  -- x is at position i; the other positions below used are unchanged
  pub record Updated (used i : ℕ) (x : A) : Type 0 where
    pub there : g i ≡ x
    pub others : (k : ℕ) → k < used → k ≢ i → g k ≡ f k

  -- the n elements at from are moved to to, and those between are shifted up by n
  pub record RowsMoved (used to from n : ℕ) : Type 0 where
    pub below : Unchanged 0 to
    pub there : Shifted from to n
    pub up : Shifted to (to + n) (from - to)
    pub above : Unchanged (from + n) used

  -- the blocks from lo, from hi and from mid, up to end, have changed places: the last is first, and the first last
  pub record BlocksSwapped (used lo hi mid end : ℕ) : Type 0 where
    pub below : Unchanged 0 lo
    pub third : Shifted mid lo (end - mid)
    pub second : Shifted hi (lo + (end - mid)) (mid - hi)
    pub first : Shifted lo (lo + (end - hi)) (hi - lo)
    pub above : Unchanged end used
