-- A row added to the open section, by upsert or to the tail: FN, FNDA, BRDA and DA lines. Assumes nothing.
use Rattle.std.specs.Prelude.{ℕ, ◌+◌, ◌≡◌, Bool, List, length, Result, Ok, Err}
use Rattle.table.specs.declared.Row.{Row}
use Rattle.table.specs.Places.{Unchanged}
use Rattle.table.specs.Store.{row}
use Rattle.ordmap.specs.Keyed.{add}
use Rattle.model.specs.declared.Fault.{Fault}
use Rattle.model.specs.Bytes.{Bytes, compare_bytes}
use Rattle.model.specs.Answer.{Answer, accepted, ◌>>=◌, refuse}
use Rattle.model.specs.Report.{Item, item_key, within}
use Rattle.table_item.specs.Items.{item_of}
use Rattle.table_item.specs.Combining.{combine_of}
use Rattle.section_tail.specs.declared.OpenSizes.{OpenSizes}
use Rattle.section_tail.specs.Tail.{items_of, OpenSection}

abbrev pub seen : Bytes → List ℕ → ℕ → ℕ → Result OpenSizes Fault → Answer (List Item)
seen text ws index at (Ok s) = accepted (items_of text ws index at s)
seen text ws index at (Err fault) = refuse fault

abbrev pub StillOpen : Bytes → List ℕ → ℕ → ℕ → ℕ → ℕ → Result OpenSizes Fault → Type 0
StillOpen text ws index used spare at (Ok s) = OpenSection text ws index used spare at s
StillOpen text ws index used spare at (Err fault) = Unit {0}

-- the row is added as the model adds its item, within the rows in use; the rows before position at are unchanged
pub record RowAdded (text ws ws' : List ℕ) (index used spare at : ℕ) (s : OpenSizes) (r : Row) (adds : Bool) (a : Result OpenSizes Fault) : Type 0 where
  pub items : seen text ws' index at a
      ≡ (add item_key compare_bytes (combine_of adds) (item_of text r) (items_of text ws index at s) >>= λ items. within used (at + length items) items)
  pub still : StillOpen text ws' index used spare at a
  pub others : Unchanged (row ws index) (row ws' index) 0 at
