-- The kept sections: entries in the order of the index, and the equal range of a key. Assumes nothing.
use Prim.Native.Nat.{ℕ, ◌+◌, ◌≤◌, ◌<◌, Ordering}
use Rattle.std.specs.Prelude.{◌≢◌, Bool, true, false, List, length}
use Rattle.table.specs.declared.Row.{Row}
use Rattle.table.specs.Places.{tabulate, PartitionPoint}
use Rattle.table.specs.Store.{row, Store}
use Rattle.model.specs.Bytes.{Bytes}
use Rattle.model.specs.Path.{components}
use Rattle.model.specs.Report.{Entry, Report, SectionKey, compare_sections}
use Rattle.table_item.specs.Items.{part, item_of, ItemInBounds}

-- ---- entries

abbrev pub test_of : Bytes → Row → Bytes
test_of text r = part text r.test r.test_len

abbrev pub path_of : Bytes → Row → Bytes
path_of text r = part text r.path r.path_len

-- the entry that a row is, together with the text
abbrev pub entry_of : Bytes → Row → Entry
entry_of text r = record { test = test_of text r; path = components (path_of text r); item = item_of text r }

abbrev pub key_of : Bytes → Row → SectionKey
key_of text r = (test_of text r, components (path_of text r))

-- the k-th entry, and its section's key
abbrev pub entry_at : Bytes → List ℕ → ℕ → ℕ → Entry
entry_at text ws index k = entry_of text (row ws index k)

abbrev pub key_at : Bytes → List ℕ → ℕ → ℕ → SectionKey
key_at text ws index k = key_of text (row ws index k)

-- the first n entries
abbrev pub entries_at : Bytes → List ℕ → ℕ → ℕ → Report
entries_at text ws index n = tabulate (entry_at text ws index) n

-- test name and path are in the text
pub record NamesInBounds (text : Bytes) (r : Row) : Type 0 where
  pub test : r.test + r.test_len ≤ length text
  pub path : r.path + r.path_len ≤ length text

-- all texts of the row are in the text
pub record RowInBounds (text : Bytes) (r : Row) : Type 0 where
  pub named : NamesInBounds text r
  pub good : ItemInBounds text r

-- the first n rows are entries, in the order of their sections
pub record Sections (text ws : List ℕ) (index used n : ℕ) : Type 0 where
  pub store : Store ws index used
  pub room : n ≤ used
  pub whole : (k : ℕ) → k < n → RowInBounds text (row ws index k)
  pub ordered : (i j : ℕ) → i < j → j < n → compare_sections (key_at text ws index i) (key_at text ws index j) ≢ Ordering.gt

-- ---- a part of the entries

-- the rows from place at on
abbrev pub rows_from : List ℕ → ℕ → ℕ → ℕ → Row
rows_from ws index at k = row ws index (at + k)

-- the n entries from place at on
abbrev pub entries_from : Bytes → List ℕ → ℕ → ℕ → ℕ → Report
entries_from text ws index at n = tabulate (λ k. entry_of text (rows_from ws index at k)) n

-- the first n of the rows f are entries, in the order of their sections
pub record Ordered (text : Bytes) (f : ℕ → Row) (n : ℕ) : Type 0 where
  pub whole : (k : ℕ) → k < n → RowInBounds text (f k)
  pub ordered : (i j : ℕ) → i < j → j < n → compare_sections (key_of text (f i)) (key_of text (f j)) ≢ Ordering.gt

-- and so are the n rows from place at on
pub record SectionsFrom (text ws : List ℕ) (index used at n : ℕ) : Type 0 where
  pub store : Store ws index used
  pub room : at + n ≤ used
  pub rows : Ordered text (rows_from ws index at) n

-- ---- the equal range of a key

-- a key is past an entry that is less, and past one that is equal if `equal`
abbrev pub is_past : Bool → Ordering → Bool
is_past equal Ordering.lt = false
is_past equal Ordering.eq = equal
is_past equal Ordering.gt = true

-- whether a key goes past the k-th of the rows f
abbrev pub PastRow : Bool → Bytes → (ℕ → Row) → SectionKey → ℕ → Bool
PastRow equal text f key k = is_past equal (compare_sections key (key_of text (f k)))

-- of the first n of the rows f, those from lo up to hi have the key
pub record IsEqualRange (text : Bytes) (f : ℕ → Row) (n : ℕ) (key : SectionKey) (lo hi : ℕ) : Type 0 where
  pub low : PartitionPoint (PastRow false text f key) n lo
  pub high : PartitionPoint (PastRow true text f key) n hi
