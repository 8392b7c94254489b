-- A table's sections filtered: what stays of a section, its lines, and what the sections from a place on print. Assumes nothing.
use Rattle.std.specs.Prelude.{ℕ, ◌+◌, ◌-◌, ◌≤◌, ◌≡◌, List, [], ◌∷◌, ◌++◌, map}
use Rattle.table.specs.declared.Row.{Row}
use Rattle.model.specs.declared.Bound.{Bound}
use Rattle.model.specs.declared.Kind.{Kind}
use Rattle.model.specs.declared.Range.{Range}
use Rattle.model.specs.Bytes.{Bytes}
use Rattle.model.specs.Limits.{max_entries}
use Rattle.model.specs.Lists.{filter, sort}
use Rattle.model.specs.Record.{end_of_record}
use Rattle.model.specs.Report.{Item}
use Rattle.model.specs.Printing.{sections, compare_printed, print_records, print_sections}
use Rattle.model.specs.Filter.{is_held, has_start, held_functions, filter_section}
use Rattle.table_item.specs.Items.{branch_kind, line_kind}
use Rattle.table_item.specs.SortedItems.{items_at}
use Rattle.table_section.specs.Sections.{NamesInBounds}
use Rattle.print_sort.specs.Sorting.{items_by}
use Rattle.print_rows.specs.Emit.{Printable}
use Rattle.print_report.specs.declared.KindRanges.{KindRanges}
use Rattle.print_report.specs.Printing.{entries_from, UnchangedBefore, head_lines, function_lines, group_lines}
use Rattle.filter.specs.declared.Kept.{Kept}
use Rattle.filter.specs.Keeping.{Behind}

-- what the filtered sections of the entries from a place on print
abbrev pub filtered_from : (tag : Kind → Bytes) → Bound → List Range → Bytes → ℕ → ℕ → List ℕ → ℕ → Bytes
filtered_from tag bound ranges text index n ws lo = print_sections tag (map (filter_section bound ranges) (sections (entries_from text ws index n lo)))

-- the n rows whose numbers are at word `numbers` on are the items
pub record Holding (text ws : List ℕ) (numbers n : ℕ) (items : List Item) : Type 0 where
  pub rows : Behind text ws numbers n
  pub are : items_by text ws numbers n ≡ items
  pub few : n ≤ max_entries

-- the functions that stay, in printing order
abbrev pub functions_left : Bound → List Range → List Item → List Item
functions_left bound ranges items = held_functions bound ranges (filter has_start (sort compare_printed items))

-- what stays of the ranges of a section's functions, branches and lines: numbers in the spare words, one range behind
-- the other
pub record KeptRows (bound : Bound) (ranges : List Range) (text ws ws' : List ℕ) (index from spare : ℕ) (runs : KindRanges) (r : Kept) : Type 0 where
  pub functions : Holding text ws' spare r.functions (functions_left bound ranges (items_at text ws index from (runs.functions - from)))
  pub branches : Holding text ws' (spare + r.functions) r.branches
      (filter (is_held ranges) (items_at text ws index runs.functions (runs.branches - runs.functions)))
  pub lines : Holding text ws' (spare + r.functions + r.branches) r.lines
      (filter (is_held ranges) (items_at text ws index runs.branches (runs.lines - runs.branches)))
  pub spared : UnchangedBefore ws ws' spare

-- a section's header row, and the rows of what stays, can be printed
pub record SectionPrintable (text ws : List ℕ) (header : Row) (numbers : ℕ) (r : Kept) : Type 0 where
  pub named : NamesInBounds text header
  pub functions : Printable text ws numbers r.functions
  pub branches : Printable text ws (numbers + r.functions) r.branches
  pub lines : Printable text ws (numbers + r.functions + r.branches) r.lines
  pub few : (r.functions ≤ max_entries) × (r.branches ≤ max_entries) × (r.lines ≤ max_entries)

-- the lines of what stays
abbrev pub kept_lines : (tag : Kind → Bytes) → Bytes → List ℕ → Row → ℕ → Kept → Bytes
kept_lines tag text ws header numbers r =
    head_lines tag text header
    ++ (function_lines tag (items_by text ws numbers r.functions)
    ++ (group_lines tag branch_kind (items_by text ws (numbers + r.functions) r.branches)
    ++ (group_lines tag line_kind (items_by text ws (numbers + r.functions + r.branches) r.lines) ++ print_records tag (end_of_record ∷ []))))
