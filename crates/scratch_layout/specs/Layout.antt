-- The layout of the scratch: the joined table (rows, index, two spare words a row), then such a table for the text that is read. There are
-- more rows than entries within the limit. Assumes nothing.
use Rattle.std.specs.Prelude.{ℕ, ◌+◌, ◌*◌, ◌≤◌, List, length}
use Rattle.table.specs.Rows.{row_words}
use Rattle.model.specs.Limits.{words_per_entry, max_entries}
use Rattle.section.specs.Reading.{capacity}

-- the offset of the index, behind the rows
abbrev pub index_at : ℕ → ℕ
index_at limit = capacity limit * row_words

-- the offset of the spare words, behind the index
abbrev pub spare_at : ℕ → ℕ
spare_at limit = index_at limit + capacity limit

-- the offset of the table for the text that is read
abbrev pub base_at : ℕ → ℕ
base_at limit = spare_at limit + capacity limit + capacity limit

-- the words are enough for the limit
pub record ScratchRoom (ws : List ℕ) (limit : ℕ) : Type 0 where
  pub most : limit ≤ max_entries
  pub words : limit * words_per_entry ≤ length ws
