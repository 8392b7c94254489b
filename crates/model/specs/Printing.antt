-- Printing a report: `into_records`. Assumes nothing.
use Prim.Native.Nat.{ℕ, Ordering}
use Rattle.std.specs.Prelude.{Bool, true, false, List, [], ◌∷◌, ◌++◌, ltb, length, if◌then◌else◌}
use Rattle.std.proofs.Math.Option.{none, some}
use Rattle.model.specs.declared.Kind.{Kind}
use Rattle.model.specs.Lists.{filter, sort, concat_map}
use Rattle.model.specs.Bytes.{Bytes, newline, compare_bytes}
use Rattle.model.specs.Record.{
  Record,
  test_name,
  source_file,
  function_name,
  function_data,
  functions_found,
  functions_hit,
  branch_data,
  branches_found,
  branches_hit,
  line_data,
  lines_found,
  lines_hit,
  end_of_record,
}
use Rattle.model.specs.Line.{print_record}
use Rattle.model.specs.Report.{Item, section_item, function_item, branch_item, line_item, Entry, Report, count_of}

-- ---- sections

pub record Section : Type 0 where
  pub test : Bytes
  pub spelling : Bytes
  pub items : List Item

unfoldable pub is_section : Item → Bool
is_section (section_item spelling) = true
is_section (function_item f) = false
is_section (branch_item line block branch taken) = false
is_section (line_item line count checksum) = false

unfoldable pub is_function : Item → Bool
is_function (section_item spelling) = false
is_function (function_item f) = true
is_function (branch_item line block branch taken) = false
is_function (line_item line count checksum) = false

unfoldable pub is_branch : Item → Bool
is_branch (section_item spelling) = false
is_branch (function_item f) = false
is_branch (branch_item line block branch taken) = true
is_branch (line_item line count checksum) = false

unfoldable pub is_line : Item → Bool
is_line (section_item spelling) = false
is_line (function_item f) = false
is_line (branch_item line block branch taken) = false
is_line (line_item line count checksum) = true

-- the items up to the next section
unfoldable pub items_here : Report → List Item
items_here [] = []
items_here (e ∷ es) = if is_section e.item then [] else e.item ∷ items_here es

-- a section for a section's own entry, with the items that follow
unfoldable pub section_here : Entry → List Item → List Section
section_here e items =
    elim e.item [
      | section_item spelling ↦ record { test = e.test; spelling = spelling; items = items } ∷ []
      | function_item f ↦ []
      | branch_item line block branch taken ↦ []
      | line_item line count checksum ↦ []
    ]

unfoldable pub sections : Report → List Section
sections [] = []
sections (e ∷ es) = section_here e (items_here es) ++ sections es

-- ---- records

-- functions are printed by start line, none first, then name
unfoldable pub print_key : Item → List ℕ
print_key (section_item spelling) = []
print_key (function_item f) = elim f.extent [ none ↦ 0 ∷ f.name | some x ↦ 1 ∷ x.start ∷ f.name ]
print_key (branch_item line block branch taken) = []
print_key (line_item line count checksum) = []

unfoldable pub compare_printed : Item → Item → Ordering
compare_printed a b = compare_bytes (print_key a) (print_key b)

unfoldable pub functions_of : List Item → List Item
functions_of items = sort compare_printed (filter is_function items)

-- FN, where a function has a start
unfoldable pub start_record : Item → List Record
start_record (section_item spelling) = []
start_record (function_item f) = elim f.extent [ none ↦ [] | some x ↦ function_name x.start x.end f.name ∷ [] ]
start_record (branch_item line block branch taken) = []
start_record (line_item line count checksum) = []

-- FNDA, BRDA or DA
unfoldable pub data_record : Item → List Record
data_record (section_item spelling) = []
data_record (function_item f) = function_data f.count f.name ∷ []
data_record (branch_item line block branch taken) = branch_data line block branch taken ∷ []
data_record (line_item line count checksum) = line_data line count checksum ∷ []

-- hit means a count above 0
unfoldable pub hits : List Item → ℕ
hits items = length (filter (λ i. ltb 0 (count_of i)) items)

-- the data of a group, how many were found and how many hit; an empty group prints nothing
unfoldable pub group : (ℕ → Record) → (ℕ → Record) → List Item → List Record
group found hit [] = []
group found hit (item ∷ items) =
    concat_map data_record (item ∷ items) ++ found (length (item ∷ items)) ∷ hit (hits (item ∷ items)) ∷ []

unfoldable pub section_records : Section → List Record
section_records s =
    test_name s.test ∷ source_file s.spelling ∷ []
    ++ concat_map start_record (functions_of s.items)
    ++ group functions_found functions_hit (functions_of s.items)
    ++ group branches_found branches_hit (filter is_branch s.items)
    ++ group lines_found lines_hit (filter is_line s.items)
    ++ end_of_record ∷ []

-- ---- bytes

module _ (tag : Kind → Bytes) where
  -- each record's line, with byte 10 after it
  unfoldable pub print_records : List Record → Bytes
  print_records records = concat_map (λ r. print_record tag r ++ newline ∷ []) records

  unfoldable pub print_sections : List Section → Bytes
  print_sections all = print_records (concat_map section_records all)

  unfoldable pub print_report : Report → Bytes
  print_report report = print_sections (sections report)
