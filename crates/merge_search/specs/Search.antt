-- Entries in ascending order, and the place of a key among them. Assumes nothing.
use Prim.Native.Nat.{ℕ, ◌-◌, ◌≤◌, ◌<◌, Ordering}
use Rattle.std.specs.Prelude.{◌≡◌, Bool, true, false, List}
use Rattle.table.specs.declared.Row.{Row}
use Rattle.table.specs.Store.{row, Store}
use Rattle.ordmap.specs.Keyed.{Sorted}
use Rattle.model.specs.Order.{is_less}
use Rattle.model.specs.Bytes.{Bytes}
use Rattle.model.specs.Report.{Entry, entry_key, compare_keys}
use Rattle.std.specs.Prelude.{Result, Ok, Err}
use Rattle.table_section.specs.Sections.{entry_of, entry_at, entries_at, RowInBounds}
use Rattle.merge_search.specs.Names.{LinesOfOne}

-- the first n of the used rows are entries, in ascending order of their keys
pub record EntriesAscending (text ws : List ℕ) (index used n : ℕ) : Type 0 where
  pub store : Store ws index used
  pub room : n ≤ used
  pub whole : (k : ℕ) → k < n → RowInBounds text (row ws index k)
  pub sorted : Sorted entry_key compare_keys (entries_at text ws index n)

abbrev pub compare_entries : Entry → Entry → Ordering
compare_entries a b = compare_keys (entry_key a) (entry_key b)

-- the entry at a place comes before the row's
abbrev pub Before : Bytes → List ℕ → ℕ → Row → ℕ → Bool
Before text ws index key k = is_less (compare_entries (entry_at text ws index k) (entry_of text key))

-- the entries before a place come before the row's
abbrev pub Passed : Bytes → List ℕ → ℕ → Row → ℕ → Type 0
Passed text ws index key from = (k : ℕ) → k < from → compare_entries (entry_at text ws index k) (entry_of text key) ≡ Ordering.lt

-- the entries at a place and before it are lines of the row's section, and so is the row, between them or at the second
pub record Between (ws : List ℕ) (index : ℕ) (key : Row) (at : ℕ) : Type 0 where
  pub before : LinesOfOne (row ws index (at - 1)) key
  pub here : LinesOfOne (row ws index at) key
  pub past : (row ws index (at - 1)).k1 < key.k1
  pub up_to : key.k1 ≤ (row ws index at).k1

-- of the n places, a test holds before lo, and not at hi
pub record GallopBounds (test : ℕ → Bool) (n lo hi : ℕ) : Type 0 where
  pub ends : lo ≤ hi
  pub most : hi ≤ n
  pub past : (k : ℕ) → k < lo → test k ≡ true
  pub stop : hi < n → test hi ≡ false

-- the position of the row's key, or its insert position
abbrev pub SearchResult : Bytes → List ℕ → ℕ → ℕ → Row → Result ℕ ℕ → Type 0
SearchResult text ws index n key (Ok i) = (i < n) × Passed text ws index key i × (compare_entries (entry_of text key) (entry_at text ws index i) ≡ Ordering.eq)
SearchResult text ws index n key (Err i) = (i ≤ n) × Passed text ws index key i × (i < n → compare_entries (entry_of text key) (entry_at text ws index i) ≡ Ordering.lt)
