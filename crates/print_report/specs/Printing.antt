-- A table printed: the entries from a position on, the kind ranges of a section's rows, and the unchanged words.
-- Assumes nothing.
use Rattle.std.specs.Prelude.{ℕ, ◌+◌, ◌-◌, ◌≤◌, ◌<◌, min, ◌≡◌, ◌≢◌, Bool, List, [], ◌∷◌, ◌++◌, length}
use Rattle.table.specs.declared.Row.{Row}
use Rattle.table.specs.Places.{tabulate}
use Rattle.table.specs.Rows.{word}
use Rattle.table.specs.Store.{row}
use Rattle.model.specs.declared.Kind.{Kind}
use Rattle.model.specs.Bytes.{Bytes}
use Rattle.model.specs.Limits.{u64_max, max_entries}
use Rattle.model.specs.Lists.{concat_map}
use Rattle.model.specs.Record.{test_name, source_file, functions_found, functions_hit}
use Rattle.model.specs.Report.{Item, Report}
use Rattle.model.specs.Printing.{start_record, group, print_records, print_report}
use Rattle.table_item.specs.Items.{kind_of, function_kind, branch_kind, line_kind}
use Rattle.table_section.specs.Sections.{test_of, path_of, entry_at}
use Rattle.section.specs.Table.{Table}
use Rattle.print_sort.specs.Sorting.{items_by, Functions}
use Rattle.print_rows.specs.Emit.{found_of, hit_of, Emitted, Printable}
use Rattle.print_report.specs.declared.KindRanges.{KindRanges}
use Rattle.print_report.specs.declared.Printed.{Printed}

-- ---- the table

-- the entries from place lo up to n
abbrev pub entries_from : Bytes → List ℕ → ℕ → ℕ → ℕ → Report
entries_from text ws index n lo = tabulate (λ k. entry_at text ws index (lo + k)) (n - lo)

-- what they print
abbrev pub printed_from : (tag : Kind → Bytes) → Bytes → ℕ → ℕ → List ℕ → ℕ → Bytes
printed_from tag text index n ws lo = print_report tag (entries_from text ws index n lo)

-- a table of few entries, with twice as many spare words behind it
pub record PrintableTable (text ws : List ℕ) (index used n spare : ℕ) : Type 0 where
  pub table : Table text ws index used n
  pub few : n ≤ max_entries
  pub behind : index + used ≤ spare
  pub words : spare + n + n ≤ length ws

-- the words before the spare ones stay
pub record UnchangedBefore (ws ws' : List ℕ) (spare : ℕ) : Type 0 where
  pub words : length ws' ≡ length ws
  pub kept : (j : ℕ) → j < spare → word ws' j ≡ word ws j

-- ---- kind ranges

-- of the rows from place `from` up to n, those before r are of the kind, and the one at r is not
pub record IsKindRange (ws : List ℕ) (index n from kind r : ℕ) : Type 0 where
  pub least : from ≤ r
  pub most : r ≤ n
  pub each : (k : ℕ) → from ≤ k → k < r → kind_of (row ws index k) ≡ kind
  pub ends : r < n → kind_of (row ws index r) ≢ kind

-- the ranges of a section's functions, branches and lines, from position `from` on
pub record AreKindRanges (ws : List ℕ) (index n from : ℕ) (r : KindRanges) : Type 0 where
  pub functions : IsKindRange ws index n from function_kind r.functions
  pub branches : IsKindRange ws index n r.functions branch_kind r.branches
  pub lines : IsKindRange ws index n r.branches line_kind r.lines

-- ---- a section's head

-- TN and SF
abbrev pub head_lines : (tag : Kind → Bytes) → Bytes → Row → Bytes
head_lines tag text header = print_records tag (test_name (test_of text header) ∷ source_file (path_of text header) ∷ [])

-- ---- functions

-- FN, then FNDA with FNF and FNH
abbrev pub function_lines : (tag : Kind → Bytes) → List Item → Bytes
function_lines tag items = print_records tag (concat_map start_record items) ++ print_records tag (group functions_found functions_hit items)

-- the n rows from place `from` on are functions that can be printed, and there are 2n spare words to sort them in
pub record FunctionRows (text ws : List ℕ) (index used from n spare : ℕ) : Type 0 where
  pub functions : Functions text ws index used from n
  pub rows : Printable text ws (index + from) n
  pub few : n ≤ max_entries
  pub behind : index + used ≤ spare
  pub words : spare + n + n ≤ length ws

-- ---- branches and lines

-- BRDA or DA, with how many were found and hit
abbrev pub group_lines : (tag : Kind → Bytes) → ℕ → List Item → Bytes
group_lines tag kind items = print_records tag (group (found_of kind) (hit_of kind) items)

abbrev pub branch_lines : (tag : Kind → Bytes) → Bytes → List ℕ → ℕ → KindRanges → Bytes
branch_lines tag text ws index r = group_lines tag branch_kind (items_by text ws (index + r.functions) (r.branches - r.functions))

abbrev pub line_lines : (tag : Kind → Bytes) → Bytes → List ℕ → ℕ → KindRanges → Bytes
line_lines tag text ws index r = group_lines tag line_kind (items_by text ws (index + r.branches) (r.lines - r.branches))

-- the rows of both ranges can be printed
pub record GroupRows (text ws : List ℕ) (index : ℕ) (r : KindRanges) : Type 0 where
  pub branches : Printable text ws (index + r.functions) (r.branches - r.functions)
  pub lines : Printable text ws (index + r.branches) (r.lines - r.branches)
  pub order : (r.functions ≤ r.branches) × (r.branches ≤ r.lines)
  pub few : r.lines ≤ max_entries

-- ---- sections

-- the lines of the section at place lo come first of what the entries from there on print, which `printed` says of words and a place, and
-- the next section is at `next`
pub record SectionPrinted (printed : List ℕ → ℕ → Bytes) (write : Bool) (ws ws' out out' : List ℕ) (index n lo spare at : ℕ) (r : Printed) : Type 0 where
  pub lines : Bytes
  pub first : printed ws lo ≡ lines ++ printed ws r.next
  pub emitted : Emitted write out out' at lines r.at
  pub more : lo < r.next
  pub most : r.next ≤ n
  pub header : r.next < n → kind_of (row ws index r.next) ≡ 0
  pub spared : UnchangedBefore ws ws' spare

-- ---- the answer

-- r is a length that is enough for the bytes: where the output is shorter, the needed one, held at 2^64 − 1. The output stays
pub record RequiredLength (out out' bytes : Bytes) (r : ℕ) : Type 0 where
  pub same : out' ≡ out
  pub short : length out < r → r ≡ min (length bytes) u64_max
  pub fits : r ≤ length out → length bytes ≤ length out
