-- Reading a text: `section::parse`, reached by `Report::from_reader`. Assumes nothing.
use Rattle.std.specs.Prelude.{ℕ, suc, ◌+◌, Bool, true, false, List, [], ◌∷◌, ◌++◌, map, length, if◌then◌else◌}
use Rattle.std.proofs.Math.Option.{Option, none, some}
use Rattle.std.proofs.Math.Dec.{compare_is_eq}
use Rattle.ordmap.specs.Keyed.{add as enter}
use Rattle.model.specs.declared.Fault.TheVariants.{UnexpectedRecord, UnexpectedEof, CallOverflow, SecondSourceFile}
use Rattle.model.specs.declared.Kind.{Kind}
use Rattle.model.specs.Order.{is_less, is_greater}
use Rattle.model.specs.Lists.{filter}
use Rattle.model.specs.Bytes.{Bytes, newline, split, compare_bytes}
use Rattle.model.specs.Path.{components}
use Rattle.model.specs.Answer.{Answer, accepted, ◌>>=◌, refuse, on_line}
use Rattle.model.specs.Record.{
  Record,
  test_name,
  source_file,
  function_name,
  function_data,
  functions_found,
  functions_hit,
  branch_data,
  branches_found,
  branches_hit,
  line_data,
  lines_found,
  lines_hit,
  end_of_record,
}
use Rattle.model.specs.Line.{read_record}
use Rattle.model.specs.Report.{
  extent_at,
  function_of,
  updated,
  Item,
  section_item,
  function_item,
  branch_item,
  line_item,
  Report,
  item_key,
  SectionKey,
  section_key,
  in_section,
  compare_sections,
  count_of,
  sum,
  within,
}

-- ---- lines

-- an empty last piece is no line
unfoldable pub without_empty_last : List Bytes → List Bytes
without_empty_last [] = []
without_empty_last ([] ∷ []) = []
without_empty_last ((b ∷ bs) ∷ []) = (b ∷ bs) ∷ []
without_empty_last (piece ∷ next ∷ pieces) = piece ∷ without_empty_last (next ∷ pieces)

-- a text is cut at each byte 10
unfoldable pub lines : Bytes → List Bytes
lines text = without_empty_last (split newline text)

-- ---- the state between two lines

pub record State : Type 0 where
  -- the sections that have ended
  pub kept : Report
  -- the last TN since then, or empty
  pub test : Bytes
  -- a line other than TN has come since then: a section is open
  pub inside : Bool
  -- the open section's SF, if it came
  pub path : Option Bytes
  -- what is in the open section, by key
  pub items : List Item

-- no section is open
unfoldable pub outside : Report → Bytes → State
outside kept test = record { kept = kept; test = test; inside = false; path = none; items = [] }

-- a section is open
unfoldable pub open_section : State → Option Bytes → List Item → State
open_section s path items = record { kept = s.kept; test = s.test; inside = true; path = path; items = items }

-- kept sections and all that is in them, plus the open section and all in it
unfoldable pub entries : State → ℕ
entries s = length s.kept + (if s.inside then suc (length s.items) else 0)

-- ---- the end of a section

-- a section without SF has the empty path
abbrev pub path_or : Option Bytes → Bytes
path_or none = []
path_or (some path) = path

-- the spelling that a section's entries give its path
unfoldable pub spelling_of : Bytes → Report → Bytes
spelling_of path [] = path
spelling_of path (e ∷ es) =
    elim e.item [
      | section_item spelling ↦ spelling
      | function_item f ↦ path
      | branch_item line block branch taken ↦ path
      | line_item line count checksum ↦ path
    ]

-- a section put among the kept ones: its data replaces that of a kept section with its key, whose spelling stays
unfoldable pub replace_section : Bytes → Bytes → List Item → Report → Report
replace_section test path items kept =
    let key : SectionKey = (test, components path) in
    let same : Report = filter (λ e. compare_is_eq (compare_sections key (section_key e))) kept in
    filter (λ e. is_greater (compare_sections key (section_key e))) kept
    ++ (map (in_section key) (section_item (spelling_of path same) ∷ items)
    ++ filter (λ e. is_less (compare_sections key (section_key e))) kept)

-- a section without functions, branches and lines is dropped
unfoldable pub keep_section : Bytes → Bytes → List Item → Report → Report
keep_section test path [] kept = kept
keep_section test path (item ∷ items) kept = replace_section test path (item ∷ items) kept

-- ---- the effect of a record

-- the later item
abbrev pub replace : Item → Item → Answer Item
replace earlier later = accepted later

-- FNDA adds to the count
unfoldable pub add_calls : Item → Item → Answer Item
add_calls (section_item spelling) later = accepted later
add_calls (function_item f) later = sum CallOverflow f.count (count_of later) >>= λ total. accepted (function_item (updated f f.extent total))
add_calls (branch_item line block branch taken) later = accepted later
add_calls (line_item line count checksum) later = accepted later

-- an item added to the open section
unfoldable pub enter_item : (Item → Item → Answer Item) → Item → State → Answer State
enter_item combine item s = do
  items ← enter item_key compare_bytes combine item s.items
  accepted (open_section s s.path items)

-- a line that only opens the section
unfoldable pub ignored : State → Answer State
ignored s = accepted (open_section s s.path s.items)

-- SF: a section has one, were it empty or the same again
unfoldable pub name_section : Bytes → State → Answer State
name_section path s =
    elim s.path [
      | none ↦ accepted (open_section s (some path) s.items)
      | some earlier ↦ refuse SecondSourceFile
    ]

-- "TN lines, then lines of other tags, then end_of_record": TN inside a section is refused, and found and hit lines are ignored
unfoldable pub effect : Record → State → Answer State
effect (test_name name) s = if s.inside then refuse UnexpectedRecord else accepted (outside s.kept name)
effect (source_file path) s = name_section path s
effect (function_name start end name) s = enter_item replace (function_item (function_of name (some (extent_at start end)) 0)) s
effect (function_data count name) s = enter_item add_calls (function_item (function_of name none count)) s
effect (functions_found found) s = ignored s
effect (functions_hit hit) s = ignored s
effect (branch_data line block branch taken) s = enter_item replace (branch_item line block branch taken) s
effect (branches_found found) s = ignored s
effect (branches_hit hit) s = ignored s
effect (line_data line count checksum) s = enter_item replace (line_item line count checksum) s
effect (lines_found found) s = ignored s
effect (lines_hit hit) s = ignored s
effect end_of_record s = accepted (outside (keep_section s.test (path_or s.path) s.items s.kept) [])

-- ---- a text

module _ (tag : Kind → Bytes) where
  -- one line: it is read, takes effect, and then the entries are counted
  unfoldable pub step : ℕ → Bytes → State → Answer State
  step limit bytes s = do
    read ← read_record tag bytes
    next ← effect read s
    within limit (entries next) next

  -- lines from the k-th on; the text must not end inside a section
  unfoldable pub read_lines : ℕ → ℕ → List Bytes → State → Answer Report
  read_lines limit k [] s = if s.inside then on_line k (refuse UnexpectedEof) else accepted s.kept
  read_lines limit k (bytes ∷ rest) s = on_line k (step limit bytes s) >>= λ next. read_lines limit (suc k) rest next

  -- the report of a text that is readable under a limit: every line is read, the grammar holds, no FNDA sum passes 2^64 − 1, and the
  -- number of entries never passes the limit
  unfoldable pub read_text : ℕ → Bytes → Answer Report
  read_text limit text = read_lines limit 1 (lines text) (outside [] [])
