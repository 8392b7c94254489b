-- The rows of sections counted, and the page of a table from a position on. Assumes nothing.
use Rattle.std.specs.Prelude.{ℕ, ◌-◌, ◌≤◌, ◌<◌, ◌≡◌, Bool, List, [], ◌∷◌, ◌++◌}
use Rattle.table.specs.declared.Row.{Row}
use Rattle.table.specs.Store.{row}
use Rattle.model.specs.Bytes.{Bytes, newline, slash}
use Rattle.model.specs.Lists.{concat_map}
use Rattle.model.specs.Printing.{hits, sections}
use Rattle.table_item.specs.Items.{kind_of}
use Rattle.table_item.specs.SortedItems.{items_at}
use Rattle.table_section.specs.Sections.{test_of, path_of, entries_at}
use Rattle.format.specs.Put.{pair}
use Rattle.print_rows.specs.Emit.{Emitted}
use Rattle.print_report.specs.declared.KindRanges.{KindRanges}
use Rattle.print_report.specs.Printing.{entries_from}
use Rattle.model_totals.specs.declared.Ratio.{Ratio}
use Rattle.model_totals.specs.declared.Totals.{Totals}
use Rattle.model_totals.specs.Totals.{blank, add_totals, share, print_share, section_line, last_totals, page}
use Rattle.print_totals.specs.declared.Line.{Line}

-- three times two numbers of at most 20 digits with a byte before each, and the share with a blank before it
abbrev pub max_columns : ℕ
max_columns = 147

-- ---- numbers

-- no number of the ratio is above m
pub record RatioAtMost (m : ℕ) (r : Ratio) : Type 0 where
  pub hit : r.hit ≤ m
  pub found : r.found ≤ m

pub record AtMost (m : ℕ) (t : Totals) : Type 0 where
  pub functions : RatioAtMost m t.functions
  pub branches : RatioAtMost m t.branches
  pub lines : RatioAtMost m t.lines

-- of the rows from a position up to another
pub record RangeCounted (text ws : List ℕ) (index from to : ℕ) (r : Ratio) : Type 0 where
  pub hit : r.hit ≡ hits (items_at text ws index from (to - from))
  pub found : r.found ≡ to - from

-- of the three ranges of a section
pub record SectionCounted (text ws : List ℕ) (index from : ℕ) (runs : KindRanges) (t : Totals) : Type 0 where
  pub functions : RangeCounted text ws index from runs.functions t.functions
  pub branches : RangeCounted text ws index runs.functions runs.branches t.branches
  pub lines : RangeCounted text ws index runs.branches runs.lines t.lines

-- ---- lines

-- hit and found with a byte before each
abbrev pub ratio_column : Ratio → Bytes
ratio_column r = pair blank r.hit slash r.found

abbrev pub ratio_columns : Ratio → Ratio → Bytes
ratio_columns a b = ratio_column a ++ ratio_column b

-- the lines' two columns, a blank before each
abbrev pub line_columns : Ratio → Bytes
line_columns r = ratio_column r ++ (blank ∷ print_share (share r))

-- test name and path behind the columns, and byte 10
abbrev pub name_columns : Bytes → Row → Bytes
name_columns text header = (blank ∷ test_of text header) ++ ((blank ∷ path_of text header) ++ (newline ∷ []))

-- the lines of the sections from a position on
abbrev pub lines_from : Bytes → List ℕ → ℕ → ℕ → ℕ → Bytes
lines_from text ws index n lo = concat_map (λ s. section_line s ++ newline ∷ []) (sections (entries_from text ws index n lo))

-- and their sums
abbrev pub totals_from : Bytes → List ℕ → ℕ → ℕ → ℕ → Totals
totals_from text ws index n lo = last_totals (entries_from text ws index n lo)

-- the page
abbrev pub page_at : Bytes → List ℕ → ℕ → ℕ → Bytes
page_at text ws index n = page (entries_at text ws index n)

-- the line of the section at position lo comes first of those from there on, and the next section is at `next`
pub record LinePrinted (write : Bool) (text ws out out' : List ℕ) (index n lo at : ℕ) (r : Line) : Type 0 where
  pub line : Bytes
  pub first : lines_from text ws index n lo ≡ line ++ lines_from text ws index n r.next
  pub emitted : Emitted write out out' at line r.at
  pub sums : totals_from text ws index n lo ≡ add_totals r.totals (totals_from text ws index n r.next)
  pub small : AtMost (r.next - lo) r.totals
  pub more : lo < r.next
  pub most : r.next ≤ n
  pub header : r.next < n → kind_of (row ws index r.next) ≡ 0
