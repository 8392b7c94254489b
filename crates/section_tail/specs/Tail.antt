-- The open section with an append tail: behind main and delta, unsorted rows in the order of arrival. Assumes nothing.
use Rattle.std.specs.Prelude.{ℕ, ◌+◌, ◌≤◌, ◌<◌, min, ◌≡◌, ◌≢◌, Bool, true, false, cond, List, [], ◌∷◌}
use Rattle.table.specs.declared.Row.{Row}
use Rattle.table.specs.Places.{Unchanged}
use Rattle.table.specs.Store.{row}
use Rattle.ordmap.specs.Keyed.{by_order, with_key}
use Rattle.model.specs.Limits.{u64_max}
use Rattle.model.specs.Bytes.{Bytes, compare_bytes}
use Rattle.model.specs.Report.{Item, item_key, compare_items}
use Rattle.table_item.specs.Items.{item_of, ItemRow}
use Rattle.table_item.specs.Combining.{is_calls, calls_of, renewed}
use Rattle.table_item.specs.SortedItems.{item_from, items_at, SortedItems}
use Rattle.section_upsert.specs.MainDelta.{all_at, MainDelta}
use Rattle.section_tail.specs.declared.OpenSizes.{OpenSizes}

-- ---- the meaning of the tail

-- an item among others, sorted by key; it renews one of its key
unfoldable pub include : Item → List Item → List Item
include e [] = e ∷ []
include e (x ∷ xs) = let later = include e xs in by_order (compare_items e x) (e ∷ x ∷ xs) (renewed x e ∷ xs) (x ∷ later)

-- items included one after the other
unfoldable pub include_all : List Item → List Item → List Item
include_all all [] = all
include_all all (e ∷ es) = include_all (include e all) es

-- the rows of the open section
abbrev pub rows_of : OpenSizes → ℕ
rows_of s = s.main + s.delta + s.tail

-- the place behind them
abbrev pub end_of : ℕ → OpenSizes → ℕ
end_of at s = at + s.main + s.delta + s.tail

-- all items of the open section from position at on: the tail's are included after the others
abbrev pub items_of : Bytes → List ℕ → ℕ → ℕ → OpenSizes → List Item
items_of text ws index at s = include_all (all_at text ws index at s.main s.delta) (items_at text ws index (at + s.main + s.delta) s.tail)

-- ---- calls

-- the calls of all functions
unfoldable pub calls_in : List Item → ℕ
calls_in [] = 0
calls_in (e ∷ es) = calls_of e + calls_in es

-- the calls of all rows: what is renewed counts too
abbrev pub calls_at : Bytes → List ℕ → ℕ → ℕ → OpenSizes → ℕ
calls_at text ws index at s = calls_in (all_at text ws index at s.main s.delta) + calls_in (items_at text ws index (at + s.main + s.delta) s.tail)

-- the calls so far with those of one more row, if it adds them; the largest number where they do not fit
abbrev pub more_calls : Bool → ℕ → ℕ → ℕ
more_calls true calls n = min (calls + n) u64_max
more_calls false calls n = calls

-- the sizes with more rows in the tail, and other calls
abbrev pub with_tail : OpenSizes → ℕ → ℕ → OpenSizes
with_tail s more calls = record { main = s.main; delta = s.delta; tail = s.tail + more; flushes = s.flushes; calls = calls }

-- the sizes with one more item in main, and no tail
abbrev pub with_one_more : OpenSizes → OpenSizes
with_one_more s = record { main = s.main + 1; delta = s.delta; tail = 0; flushes = s.flushes; calls = s.calls }

-- n calls are no more than were counted, unless those did not fit
abbrev pub CallsWithin : ℕ → ℕ → Type 0
CallsWithin n counted = counted < u64_max → n ≤ counted

-- a row of a line: FNDA adds, and no other line has calls
pub record RowOfLine (adds : Bool) (r : Row) : Type 0 where
  pub adding : (text : Bytes) → is_calls (item_of text r) ≡ adds
  pub counts : (text : Bytes) → calls_of (item_of text r) ≡ cond adds r.count 0

-- ---- the open section

-- a section with a tail has no delta, and its calls fit
pub record OpenSection (text ws : List ℕ) (index used spare at : ℕ) (s : OpenSizes) : Type 0 where
  pub parts : MainDelta text ws index used spare at s.main s.delta
  pub alone : s.tail ≢ 0 → s.delta ≡ 0
  pub counted : s.tail ≢ 0 → s.calls < u64_max
  pub room : end_of at s ≤ used
  pub inner : (k : ℕ) → k < s.tail → ItemRow text (row ws index (at + s.main + s.delta + k))
  pub calls : CallsWithin (calls_at text ws index at s) s.calls

-- ---- the tail flushed

-- the calls of each function fit
abbrev pub CallsFit : List Item → Type 0
CallsFit items = (k : List ℕ) → calls_in (with_key item_key compare_bytes k items) ≤ u64_max

-- the calls of the i-th row fit with those of its function among the items before it
abbrev pub RowFits : Bytes → List ℕ → ℕ → ℕ → ℕ → OpenSizes → Type 0
RowFits text ws index at i s =
    let e = item_from text ws index at i in
    calls_in (with_key item_key compare_bytes (item_key e) (all_at text ws index at s.main s.delta)) + calls_of e ≤ u64_max

-- the i-th row is upserted into those before it, and those behind it are unchanged
pub record OneUpserted (text ws ws' : List ℕ) (index used spare at i : ℕ) (s r : OpenSizes) : Type 0 where
  pub items : all_at text ws' index at r.main r.delta ≡ include (item_from text ws index at i) (all_at text ws index at s.main s.delta)
  pub still : MainDelta text ws' index used spare at r.main r.delta
  pub most : r.main + r.delta ≤ i + 1
  pub none : r.tail ≡ 0
  pub calls : r.calls ≡ s.calls
  pub others : Unchanged (row ws index) (row ws' index) 0 at
  pub behind : Unchanged (row ws index) (row ws' index) (at + i + 1) used

-- the m rows from position at on are upserted one after the other, and no tail is left
pub record AllUpserted (text ws ws' : List ℕ) (index used spare at m counted : ℕ) (r : OpenSizes) : Type 0 where
  pub items : all_at text ws' index at r.main r.delta ≡ include_all [] (items_at text ws index at m)
  pub still : MainDelta text ws' index used spare at r.main r.delta
  pub none : r.tail ≡ 0
  pub calls : r.calls ≡ counted
  pub others : Unchanged (row ws index) (row ws' index) 0 at

-- the same items, with no tail
pub record TailFlushed (text ws ws' : List ℕ) (index used spare at : ℕ) (s r : OpenSizes) : Type 0 where
  pub items : items_of text ws' index at r ≡ items_of text ws index at s
  pub still : OpenSection text ws' index used spare at r
  pub none : r.tail ≡ 0
  pub others : Unchanged (row ws index) (row ws' index) 0 at

-- the same items, all n of them in main
pub record AllFlushed (text ws ws' : List ℕ) (index used at : ℕ) (s : OpenSizes) (n : ℕ) : Type 0 where
  pub items : items_at text ws' index at n ≡ items_of text ws index at s
  pub still : SortedItems text ws' index used at n
  pub others : Unchanged (row ws index) (row ws' index) 0 at
