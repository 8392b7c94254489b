-- A row upserted into the open section: FN, FNDA, BRDA and DA lines. Assumes nothing.
use Rattle.std.specs.Prelude.{ℕ, ◌+◌, ◌≡◌, Bool, List, length, Option, Some, None, Result, Ok, Err}
use Rattle.table.specs.declared.Row.{Row}
use Rattle.table.specs.Places.{Unchanged, Updated}
use Rattle.table.specs.Rows.{UnchangedOutside}
use Rattle.table.specs.Store.{row, Store}
use Rattle.ordmap.specs.Keyed.{add}
use Rattle.model.specs.declared.Fault.{Fault}
use Rattle.model.specs.Bytes.{Bytes, compare_bytes}
use Rattle.model.specs.Answer.{Answer, accepted, ◌>>=◌, refuse}
use Rattle.model.specs.Report.{Item, item_key, within}
use Rattle.table_item.specs.Items.{item_of, ItemRow}
use Rattle.table_item.specs.SortedItems.{item_at}
use Rattle.table_item.specs.Combining.{combine_of, seen_one, InnerOne}
use Rattle.section_upsert.specs.declared.PartSizes.{PartSizes}
use Rattle.section_upsert.specs.MainDelta.{all_at, MainDelta}

abbrev pub PutOne : List ℕ → List ℕ → ℕ → ℕ → ℕ → Option Row → Type 0
PutOne ws ws' index used i (Some r) = Updated (row ws index) (row ws' index) used i r
PutOne ws ws' index used i None = Unchanged (row ws index) (row ws' index) 0 used

-- the row at position i is combined with the row r; the words behind the index are unchanged
pub record RowCombined (ws ws' : List ℕ) (index used i : ℕ) (r : Row) (adds : Bool) (a : Option Row) : Type 0 where
  pub item : (text : Bytes) → seen_one text a ≡ combine_of adds (item_at text ws index i) (item_of text r)
  pub inner : (text : Bytes) → ItemRow text (row ws index i) → ItemRow text r → InnerOne text a
  pub store : Store ws' index used
  pub rows : PutOne ws ws' index used i a
  pub spare : UnchangedOutside ws ws' 0 (index + used)

-- the sizes of main and delta
abbrev pub parts : ℕ → ℕ → Result PartSizes Fault
parts n p = Ok (record { main = n; delta = p })

abbrev pub seen : Bytes → List ℕ → ℕ → ℕ → Result PartSizes Fault → Answer (List Item)
seen text ws index at (Ok s) = accepted (all_at text ws index at s.main s.delta)
seen text ws index at (Err fault) = refuse fault

abbrev pub StillOpen : Bytes → List ℕ → ℕ → ℕ → ℕ → ℕ → Result PartSizes Fault → Type 0
StillOpen text ws index used spare at (Ok s) = MainDelta text ws index used spare at s.main s.delta
StillOpen text ws index used spare at (Err fault) = Unit {0}

-- the row is upserted as the model adds its item, within the rows in use; the rows before position at are unchanged,
-- and so are those behind the free row
pub record Upserted (text ws ws' : List ℕ) (index used spare at n p : ℕ) (r : Row) (adds : Bool) (a : Result PartSizes Fault) : Type 0 where
  pub items : seen text ws' index at a
      ≡ (add item_key compare_bytes (combine_of adds) (item_of text r) (all_at text ws index at n p) >>= λ items. within used (at + length items) items)
  pub still : StillOpen text ws' index used spare at a
  pub others : Unchanged (row ws index) (row ws' index) 0 at
  pub behind : Unchanged (row ws index) (row ws' index) (at + n + p + 1) used
