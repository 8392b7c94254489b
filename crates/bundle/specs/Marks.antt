-- Which texts of a bundle are chosen, by a byte each: one that is not 0. Texts past the last byte are chosen, so that no bytes choose all.
-- Assumes nothing.
use Rattle.std.specs.Prelude.{ℕ, ◌≤◌, ◌<◌, ◌≡◌, Bool, true, false, List, ltb, get_or}

abbrev pub is_marked : List ℕ → ℕ → Bool
is_marked marks i = ltb 0 (get_or marks i 1)

-- of n texts those are chosen that pass a test
abbrev pub MarkedAs : (ℕ → Bool) → ℕ → List ℕ → Type 0
MarkedAs test n marks = (k : ℕ) → k < n → is_marked marks k ≡ test k

-- r is the first of the numbers from i up to n that is marked, or n
pub record NextMarked (marks : List ℕ) (n i r : ℕ) : Type 0 where
  pub least : i ≤ r
  pub most : r ≤ n
  pub passed : (k : ℕ) → i ≤ k → k < r → is_marked marks k ≡ false
  pub marked : r < n → is_marked marks r ≡ true
