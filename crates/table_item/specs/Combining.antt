-- What two rows of one key make: FN, FNDA, BRDA and DA lines. Assumes nothing.
use Rattle.std.specs.Prelude.{◌≡◌, Option as LentOption, Some, None, Bool, true, false, cond, ℕ, ◌+◌}
use Rattle.std.proofs.Math.Option.{Option, none, some}
use Rattle.table.specs.declared.Row.{Row}
use Rattle.model.specs.declared.Fault.TheVariants.{CallOverflow}
use Rattle.model.specs.Bytes.{Bytes}
use Rattle.model.specs.Answer.{Answer, accepted, refuse}
use Rattle.model.specs.Report.{Extent, updated, Item, section_item, function_item, branch_item, line_item}
use Rattle.model.specs.Reading.{replace, add_calls}
use Rattle.table_item.specs.Items.{kind_of, function_kind, item_of, ItemRow}

-- FNDA adds, the others replace
abbrev pub combine_of : Bool → Item → Item → Answer Item
combine_of true = add_calls
combine_of false = replace

-- a row whose count is added is a function
abbrev pub Adds : Bool → Row → Type 0
Adds true r = kind_of r ≡ function_kind
Adds false r = Unit {0}

-- ---- what two rows make

abbrev pub seen_one : Bytes → LentOption Row → Answer Item
seen_one text (Some r) = accepted (item_of text r)
seen_one text None = refuse CallOverflow

abbrev pub InnerOne : Bytes → LentOption Row → Type 0
InnerOne text (Some r) = ItemRow text r
InnerOne text None = Unit {0}

-- ---- rows of one key, whatever their counts add up to

abbrev pub no_extent : Option Extent → Bool
no_extent none = true
no_extent (some x) = false

-- what an FNDA line gives: a function of which no FN is known
unfoldable pub is_calls : Item → Bool
is_calls (section_item spelling) = false
is_calls (function_item f) = no_extent f.extent
is_calls (branch_item line block branch taken) = false
is_calls (line_item line count checksum) = false

-- how often a function was called
unfoldable pub calls_of : Item → ℕ
calls_of (section_item spelling) = 0
calls_of (function_item f) = f.count
calls_of (branch_item line block branch taken) = 0
calls_of (line_item line count checksum) = 0

-- `add_calls` without a limit
unfoldable pub with_calls : Item → Item → Item
with_calls (section_item spelling) later = later
with_calls (function_item f) later = function_item (updated f f.extent (f.count + calls_of later))
with_calls (branch_item line block branch taken) later = later
with_calls (line_item line count checksum) later = later

-- what an FNDA line gives adds to the earlier item, any other takes its place
abbrev pub renewed : Item → Item → Item
renewed earlier later = cond (is_calls later) (with_calls earlier later) later
