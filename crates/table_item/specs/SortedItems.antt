-- The open section: items in the order of the index, sorted by key, and the place of a key among them. Assumes nothing.
use Rattle.std.specs.Prelude.{ℕ, suc, ◌+◌, ◌≤◌, ◌<◌, ◌≡◌, List, [], ◌∷◌, Result, Ok, Err}
use Rattle.table.specs.Places.{tabulate}
use Rattle.table.specs.Store.{row, Store}
use Rattle.ordmap.specs.Keyed.{by_order, Sorted}
use Rattle.model.specs.Bytes.{Bytes, compare_bytes}
use Rattle.model.specs.Report.{Item, item_key, compare_items}
use Rattle.table_item.specs.Items.{item_of, ItemRow}

-- the item at a place
abbrev pub item_at : Bytes → List ℕ → ℕ → ℕ → Item
item_at text ws index i = item_of text (row ws index i)

-- the k-th item from place at on
abbrev pub item_from : Bytes → List ℕ → ℕ → ℕ → ℕ → Item
item_from text ws index at k = item_at text ws index (at + k)

-- the n items from place at on
abbrev pub items_at : Bytes → List ℕ → ℕ → ℕ → ℕ → List Item
items_at text ws index at n = tabulate (item_from text ws index at) n

-- the n rows from place at on are items, sorted by key
pub record SortedItems (text ws : List ℕ) (index used at n : ℕ) : Type 0 where
  pub store : Store ws index used
  pub room : at + n ≤ used
  pub inner : (k : ℕ) → k < n → ItemRow text (row ws index (at + k))
  pub sorted : Sorted item_key compare_bytes (items_at text ws index at n)

-- ---- the place of a key

abbrev pub next : Result ℕ ℕ → Result ℕ ℕ
next (Ok i) = Ok (suc i)
next (Err i) = Err (suc i)

-- the position of an item's key in a sorted list, or its insert position; `add` of ordmap decides in the same way
unfoldable pub place : Item → List Item → Result ℕ ℕ
place e [] = Err 0
place e (x ∷ xs) = let later = place e xs in by_order (compare_items e x) (Err 0) (Ok 0) (next later)

abbrev pub FoundWithin : ℕ → Result ℕ ℕ → Type 0
FoundWithin n (Ok i) = i < n
FoundWithin n (Err i) = i ≤ n

-- r is the place of e among the n items from place at on
pub record FoundPlace (text ws : List ℕ) (index at n : ℕ) (e : Item) (r : Result ℕ ℕ) : Type 0 where
  pub is : r ≡ place e (items_at text ws index at n)
  pub within : FoundWithin n r
