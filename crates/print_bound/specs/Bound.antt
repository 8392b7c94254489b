-- An upper bound for the bytes that a report prints, entry by entry. Assumes nothing.
use Rattle.std.specs.Prelude.{ℕ, ◌+◌, ◌≤◌, ◌≡◌, Bool, true, false, List, [], ◌∷◌, ◌++◌, length}
use Rattle.model.specs.declared.Kind.{Kind}
use Rattle.model.specs.declared.Kind.TheVariants.{TestName, SourceFile, FunctionName, FunctionData, FunctionsFound, FunctionsHit, BranchData, BranchesFound, BranchesHit, LineData, LinesFound, LinesHit, EndOfRecord}
use Rattle.model.specs.Bytes.{Bytes}
use Rattle.model.specs.Report.{Item, section_item, function_item, branch_item, line_item, Entry, Report}
use Rattle.model.specs.Printing.{start_record, data_record, print_records}
use Rattle.table_section.specs.Sections.{entries_at}
use Rattle.print_bound.specs.declared.Widths.{Widths}

-- an item's own lines: FN, and FNDA, BRDA or DA
unfoldable pub item_lines : (tag : Kind → Bytes) → Item → Bytes
item_lines tag item = print_records tag (start_record item) ++ print_records tag (data_record item)

-- the nine tags of a section's lines that are no item's
abbrev pub section_tags : (tag : Kind → Bytes) → ℕ
section_tags tag =
    length (tag TestName) + length (tag SourceFile) + length (tag FunctionsFound) + length (tag FunctionsHit)
    + length (tag BranchesFound) + length (tag BranchesHit) + length (tag LinesFound) + length (tag LinesHit) + length (tag EndOfRecord)

-- what the lines of each kind of row have besides digits and texts, at most
pub record WidthsOf (tag : Kind → Bytes) (w : Widths) : Type 0 where
  pub line : w.line ≡ 4 + length (tag LineData)
  pub branch : w.branch ≡ 5 + length (tag BranchData)
  pub function : w.function ≡ 67 + length (tag FunctionName) + length (tag FunctionData)
  pub section : w.section ≡ 47 + section_tags tag
  pub few : (length (tag LineData) ≤ 16) × (length (tag BranchData) ≤ 16)

-- a section's header item counts for TN, SF and end_of_record, and for the six found and hit lines, with five digits
-- each
unfoldable pub section_most : (tag : Kind → Bytes) → Bytes → Item → ℕ
section_most tag test (section_item spelling) = 47 + section_tags tag + length test + length spelling
section_most tag test (function_item f) = 0
section_most tag test (branch_item line block branch taken) = 0
section_most tag test (line_item line count checksum) = 0

abbrev pub entry_most : (tag : Kind → Bytes) → Entry → ℕ
entry_most tag e = section_most tag e.test e.item + length (item_lines tag e.item)

unfoldable pub report_most : (tag : Kind → Bytes) → Report → ℕ
report_most tag [] = 0
report_most tag (e ∷ es) = entry_most tag e + report_most tag es

-- true only where the bounds of the first n entries add up to at most `room`, whatever the text
abbrev pub FitsBound : (tag : Kind → Bytes) → List ℕ → ℕ → ℕ → ℕ → Bool → Type 0
FitsBound tag ws index n room true = (text : Bytes) → report_most tag (entries_at text ws index n) ≤ room
FitsBound tag ws index n room false = Unit {0}
