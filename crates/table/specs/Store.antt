-- Rows in the order of an index. Assumes nothing.
use Rattle.std.specs.Prelude.{ℕ, ◌+◌, ◌*◌, ◌≤◌, ◌<◌, ◌≡◌, List, length}
use Rattle.table.specs.declared.Row.{Row}
use Rattle.table.specs.Rows.{row_words, word, row_at}

-- the i-th word of the index: a row's number
abbrev pub number : List ℕ → ℕ → ℕ → ℕ
number ws index i = word ws (index + i)

-- the first `used` are numbers below `used`, each once
pub record Index (f : ℕ → ℕ) (used : ℕ) : Type 0 where
  pub below : (i : ℕ) → i < used → f i < used
  pub once : (i j : ℕ) → i < used → j < used → f i ≡ f j → i ≡ j

-- the index starts behind the rows and holds the number of each
pub record Store (ws : List ℕ) (index used : ℕ) : Type 0 where
  pub rows_end : used * row_words ≤ index
  pub index_end : index + used ≤ length ws
  pub numbers : Index (number ws index) used

-- the i-th row in the index's order
unfoldable pub row : List ℕ → ℕ → ℕ → Row
row ws index i = row_at ws (number ws index i)
