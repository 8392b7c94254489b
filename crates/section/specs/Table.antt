-- A report as a table: the first rows in the order of an index are the entries of a valid report. Assumes nothing.
use Rattle.std.specs.Prelude.{ℕ, ◌≤◌, ◌<◌, List}
use Rattle.table.specs.Store.{row, Store}
use Rattle.model.specs.Valid.{Valid}
use Rattle.table_section.specs.Sections.{entries_at, RowInBounds}

-- the first n of the used rows are the report `entries_at text ws index n`
pub record Table (text ws : List ℕ) (index used n : ℕ) : Type 0 where
  pub store : Store ws index used
  pub room : n ≤ used
  pub whole : (k : ℕ) → k < n → RowInBounds text (row ws index k)
  pub valid : Valid (entries_at text ws index n)
