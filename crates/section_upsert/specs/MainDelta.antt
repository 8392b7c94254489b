-- The items of the open section in two sorted parts: main, and behind it the delta, whose insert positions in main are
-- in spare words. Assumes nothing.
use Rattle.std.specs.Prelude.{ℕ, suc, ◌+◌, ◌≤◌, ◌<◌, ◌≡◌, List, [], ◌∷◌, Err}
use Rattle.table.specs.declared.Row.{Row}
use Rattle.table.specs.Places.{Unchanged}
use Rattle.table.specs.Rows.{word}
use Rattle.table.specs.Store.{row, Store}
use Rattle.ordmap.specs.Keyed.{by_order}
use Rattle.model.specs.Bytes.{Bytes}
use Rattle.model.specs.Report.{Item, compare_items}
use Rattle.table_item.specs.SortedItems.{item_from, items_at, SortedItems, place}

-- ---- one list of two

-- an item among others, sorted by key
unfoldable pub insert : Item → List Item → List Item
insert e [] = e ∷ []
insert e (x ∷ xs) = let later = insert e xs in by_order (compare_items e x) (e ∷ x ∷ xs) (e ∷ xs) (x ∷ later)

-- all items of both parts, sorted by key
unfoldable pub merge_items : List Item → List Item → List Item
merge_items main [] = main
merge_items main (e ∷ delta) = insert e (merge_items main delta)

-- the n items from place at on and the p behind them
abbrev pub all_at : Bytes → List ℕ → ℕ → ℕ → ℕ → ℕ → List Item
all_at text ws index at n p = merge_items (items_at text ws index at n) (items_at text ws index (at + n) p)

-- ---- the parts

-- n items of main from position at on and p of the delta behind them; word j from spare on is the insert position in
-- main of the j-th, whose key main does not have
pub record MainDelta (text ws : List ℕ) (index used spare at n p : ℕ) : Type 0 where
  pub main : SortedItems text ws index used at n
  pub delta : SortedItems text ws index used (at + n) p
  pub positions : (j : ℕ) → j < p → place (item_from text ws index (at + n) j) (items_at text ws index at n) ≡ Err (word ws (spare + j))

-- of n elements, x is inserted at position k, and those from there on are shifted up by one
pub record InsertedAt {A : Type 0} (f g : ℕ → A) (n k : ℕ) (x : A) : Type 0 where
  pub below : (j : ℕ) → j < k → g j ≡ f j
  pub here : g k ≡ x
  pub up : (j : ℕ) → k ≤ j → j < n → g (suc j) ≡ f j

-- a row with insert position i in main is inserted at position k of the p rows of the delta, which starts at position
-- from
pub record DeltaInserted (ws ws' : List ℕ) (index used spare from p k i : ℕ) (r : Row) : Type 0 where
  pub store : Store ws' index used
  pub rows : InsertedAt (λ j. row ws index (from + j)) (λ j. row ws' index (from + j)) p k r
  pub places : InsertedAt (λ j. word ws (spare + j)) (λ j. word ws' (spare + j)) p k i
  pub others : Unchanged (row ws index) (row ws' index) 0 from
  pub behind : Unchanged (row ws index) (row ws' index) (from + p + 1) used

-- the delta is merged into main
pub record DeltaMerged (text ws ws' : List ℕ) (index used at n p : ℕ) : Type 0 where
  pub items : items_at text ws' index at (n + p) ≡ all_at text ws index at n p
  pub still : SortedItems text ws' index used at (n + p)
  pub others : Unchanged (row ws index) (row ws' index) 0 at
