-- Row numbers of which some stay: by which rule, what is known of the rows ahead, and what the words hold then. Assumes nothing.
use Rattle.std.specs.Prelude.{ℕ, ◌+◌, ◌*◌, ◌≤◌, ◌<◌, ◌≡◌, Bool, List}
use Rattle.table.specs.Rows.{row_words, word}
use Rattle.model.specs.declared.Bound.TheVariants.{GreaterStart}
use Rattle.model.specs.declared.Range.{Range}
use Rattle.model.specs.Bytes.{Bytes}
use Rattle.model.specs.Lists.{filter}
use Rattle.model.specs.Report.{Item}
use Rattle.model.specs.Ranges.{holds}
use Rattle.model.specs.Filter.{is_held, has_start, start_line, bounding, end_before, end_line, held_functions}
use Rattle.print_sort.specs.Sorting.{items_by}
use Rattle.print_rows.specs.Emit.{Printable}
use Rattle.print_report.specs.Printing.{UnchangedBefore}
use Rattle.filter.specs.declared.Rule.{Rule}
use Rattle.filter.specs.declared.Rule.TheVariants.{Started, Held, Until}
use Rattle.filter.specs.declared.Looked.{Looked}

-- the items that stay by a rule
abbrev pub chosen : Rule → List Range → List Item → List Item
chosen Started ranges items = filter has_start items
chosen Held ranges items = filter (is_held ranges) items
chosen (Until bound) ranges items = held_functions bound ranges items

-- whether an item stays, given those behind it
abbrev pub keeps : Rule → List Range → Item → List Item → Bool
keeps Started ranges item behind = has_start item
keeps Held ranges item behind = is_held ranges item
keeps (Until bound) ranges item behind = holds ranges (start_line item) (end_line bound item behind)

-- where the next greater start bounds functions: the end reckoned for the row looked at last is the one that the rows not looked at yet give
abbrev pub Ahead : Rule → Looked → List Item → Type 0
Ahead rule last items = rule ≡ Until GreaterStart → last.end ≡ end_before (bounding GreaterStart last.start items)

-- the n rows whose numbers are at word `numbers` on can be printed, and are before that word
pub record Behind (text ws : List ℕ) (numbers n : ℕ) : Type 0 where
  pub printable : Printable text ws numbers n
  pub before : (k : ℕ) → k < n → word ws (numbers + k) * row_words + row_words ≤ numbers

-- of the n rows whose numbers are at word `from` on, r are chosen: their numbers are at word `to` on, and the words
-- before are unchanged
pub record Chosen (choose : List Item → List Item) (ws ws' : List ℕ) (from n to r : ℕ) : Type 0 where
  pub most : r ≤ n
  pub spared : UnchangedBefore ws ws' to
  pub rows : (text : Bytes) → Behind text ws from n → Behind text ws' to r
  pub are : (text : Bytes) → Behind text ws from n → items_by text ws' to r ≡ choose (items_by text ws from n)
