-- What a record of a line does to the reading state. The line is the part of the text from `at` with `len` bytes. Assumes nothing.
use Rattle.std.specs.Prelude.{ℕ, ◌+◌, ◌≤◌, ◌≡◌, List, length, drop, Option, Some, None, Result}
use Rattle.std.proofs.Math.Option.{none, some}
use Rattle.table.specs.declared.Row.{Row}
use Rattle.model.specs.declared.Fault.{Fault}
use Rattle.model.specs.declared.Part.{Part}
use Rattle.model.specs.declared.Record.{Record as LentRecord}
use Rattle.model.specs.declared.Record.TheVariants as Lent
use Rattle.model.specs.Bytes.{Bytes}
use Rattle.model.specs.Answer.{accepted}
use Rattle.model.specs.Record.{Record}
use Rattle.model.specs.Report.{extent_at, function_of, Item, function_item, branch_item, line_item}
use Rattle.model.specs.Parts.{given_in, record_in}
use Rattle.model.specs.Reading.{effect}
use Rattle.table_item.specs.Items.{part, part_in, checksum_part, kind_of, function_kind, item_of, ItemRow}
use Rattle.section.specs.declared.State.{State}
use Rattle.section.specs.Reading.{StepBy}

-- ---- a record's kind and texts

-- the place in the order of `RecordKind`
abbrev pub kind_number : LentRecord → ℕ
kind_number (Lent.TestName p) = 0
kind_number (Lent.SourceFile p) = 1
kind_number (Lent.FunctionName start end p) = 2
kind_number (Lent.FunctionData count p) = 3
kind_number (Lent.FunctionsFound found) = 4
kind_number (Lent.FunctionsHit hit) = 5
kind_number (Lent.BranchData line block branch taken) = 6
kind_number (Lent.BranchesFound found) = 7
kind_number (Lent.BranchesHit hit) = 8
kind_number (Lent.LineData line count checksum) = 9
kind_number (Lent.LinesFound found) = 10
kind_number (Lent.LinesHit hit) = 11
kind_number Lent.EndOfRecord = 12

abbrev pub no_part : Part
no_part = record { start = 0; len = 0 }

-- the test name, the path or the function's name
abbrev pub text_part : LentRecord → Part
text_part (Lent.TestName p) = p
text_part (Lent.SourceFile p) = p
text_part (Lent.FunctionName start end p) = p
text_part (Lent.FunctionData count p) = p
text_part (Lent.FunctionsFound found) = no_part
text_part (Lent.FunctionsHit hit) = no_part
text_part (Lent.BranchData line block branch taken) = no_part
text_part (Lent.BranchesFound found) = no_part
text_part (Lent.BranchesHit hit) = no_part
text_part (Lent.LineData line count checksum) = no_part
text_part (Lent.LinesFound found) = no_part
text_part (Lent.LinesHit hit) = no_part
text_part Lent.EndOfRecord = no_part

abbrev pub checksum_of : LentRecord → Option Part
checksum_of (Lent.TestName p) = None
checksum_of (Lent.SourceFile p) = None
checksum_of (Lent.FunctionName start end p) = None
checksum_of (Lent.FunctionData count p) = None
checksum_of (Lent.FunctionsFound found) = None
checksum_of (Lent.FunctionsHit hit) = None
checksum_of (Lent.BranchData line block branch taken) = None
checksum_of (Lent.BranchesFound found) = None
checksum_of (Lent.BranchesHit hit) = None
checksum_of (Lent.LineData line count checksum) = checksum
checksum_of (Lent.LinesFound found) = None
checksum_of (Lent.LinesHit hit) = None
checksum_of Lent.EndOfRecord = None

-- FN, FNDA, BRDA and DA add an item
abbrev pub AddsItem : LentRecord → Type 0
AddsItem (Lent.TestName p) = ⊥
AddsItem (Lent.SourceFile p) = ⊥
AddsItem (Lent.FunctionName start end p) = Unit {0}
AddsItem (Lent.FunctionData count p) = Unit {0}
AddsItem (Lent.FunctionsFound found) = ⊥
AddsItem (Lent.FunctionsHit hit) = ⊥
AddsItem (Lent.BranchData line block branch taken) = Unit {0}
AddsItem (Lent.BranchesFound found) = ⊥
AddsItem (Lent.BranchesHit hit) = ⊥
AddsItem (Lent.LineData line count checksum) = Unit {0}
AddsItem (Lent.LinesFound found) = ⊥
AddsItem (Lent.LinesHit hit) = ⊥
AddsItem Lent.EndOfRecord = ⊥

-- the item that FN, FNDA, BRDA and DA add, their texts being parts of these bytes; the others add none, and their item
-- is never used
abbrev pub item_in : Bytes → LentRecord → Item
item_in bytes (Lent.TestName p) = line_item 0 0 none
item_in bytes (Lent.SourceFile p) = line_item 0 0 none
item_in bytes (Lent.FunctionName start end p) = function_item (function_of (part_in bytes p) (some (extent_at start (given_in end))) 0)
item_in bytes (Lent.FunctionData count p) = function_item (function_of (part_in bytes p) none count)
item_in bytes (Lent.FunctionsFound found) = line_item 0 0 none
item_in bytes (Lent.FunctionsHit hit) = line_item 0 0 none
item_in bytes (Lent.BranchData line block branch taken) = branch_item line block branch (given_in taken)
item_in bytes (Lent.BranchesFound found) = line_item 0 0 none
item_in bytes (Lent.BranchesHit hit) = line_item 0 0 none
item_in bytes (Lent.LineData line count checksum) = line_item line count (checksum_part bytes checksum)
item_in bytes (Lent.LinesFound found) = line_item 0 0 none
item_in bytes (Lent.LinesHit hit) = line_item 0 0 none
item_in bytes Lent.EndOfRecord = line_item 0 0 none

-- ---- parts of a line

abbrev pub PartWithin : ℕ → Part → Type 0
PartWithin len p = p.start + p.len ≤ len

abbrev pub ChecksumWithin : ℕ → Option Part → Type 0
ChecksumWithin len (Some p) = PartWithin len p
ChecksumWithin len None = Unit {0}

-- the texts lie in the first len bytes
pub record TextsWithin (len : ℕ) (lent : LentRecord) : Type 0 where
  pub text : PartWithin len (text_part lent)
  pub checksum : ChecksumWithin len (checksum_of lent)

-- the part of the text that a part of the line is
abbrev pub moved_part : ℕ → Part → Part
moved_part at p = record { start = at + p.start; len = p.len }

abbrev pub moved_checksum : ℕ → Option Part → Option Part
moved_checksum at (Some p) = Some (moved_part at p)
moved_checksum at None = None

-- ---- what a record does

-- the row that the record of a line adds
pub record RowOf (at len : ℕ) (lent : LentRecord) (r : Row) : Type 0 where
  pub is : (text : Bytes) → item_of text r ≡ item_in (drop at text) lent
  pub inner : (text : Bytes) → at + len ≤ length text → ItemRow text r
  pub adds : kind_number lent ≡ 3 → kind_of r ≡ function_kind

-- the record's parts lie in the line
pub record RecordAt (text : Bytes) (at len : ℕ) (lent : LentRecord) : Type 0 where
  pub made : Record
  pub is : record_in (part text at len) lent ≡ accepted made

-- the step is the effect of the record that the line's record is
pub record Steps (text ws ws' : List ℕ) (index limit : ℕ) (st : State) (lent : LentRecord) (at len : ℕ) (r : Result State Fault) : Type 0 where
  pub by : (made : Record) → record_in (part text at len) lent ≡ accepted made → StepBy (effect made) text ws ws' index limit st r
