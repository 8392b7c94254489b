-- What a report prints is no longer than the bounds of its entries, and neither are its sections with fewer items.
-- Assumes nothing.
use Prim.Native.Nat.{ℕ, ◌+◌, ◌≤◌}
use native.Mathlib.Omega.{arith}
use mathlib.Core.Path.{◌≡◌, refl, ap}
use mathlib.Core.List.{List, [], ◌∷◌, ◌++◌, map, map-id}
use lib.Dec.{ltb}
use lib.ListN.{length, length-append}
use Rattle.model.specs.Bytes.{Bytes}
use Rattle.model.specs.declared.Kind.{Kind}
use Rattle.model.specs.Lists.{filter, sort, concat_map}
use Rattle.model.specs.Limits.{max_entries}
use Rattle.model.specs.Record.{Record, test_name, source_file, functions_found, functions_hit, branches_found, branches_hit, lines_found, lines_hit, end_of_record}
use Rattle.model.specs.Report.{Item, section_item, function_item, branch_item, line_item, Report, SectionKey, section_key, in_section, count_of}
use Rattle.model.specs.Printing.{
  Section,
  is_section,
  is_function,
  is_branch,
  is_line,
  items_here,
  section_here,
  sections,
  compare_printed,
  functions_of,
  start_record,
  data_record,
  hits,
  group,
  section_records,
  print_records,
  print_sections,
  print_report,
}
use Rattle.model.proofs.ListLaws.{select_length, sort-length}
use Rattle.print_rows.proofs.PassLaws.{lines, lines-append}
use Rattle.print_bound.specs.Bound.{item_lines, section_tags, section_most, entry_most, report_most}
use Rattle.print_bound.proofs.EachLaws.{sort-each, kinds_each}
use Rattle.print_bound.proofs.LengthLaws.{Short, shorts, head_length, end-length}

abbrev pub bytes : (tag : Kind → Bytes) → List Item → ℕ
bytes tag items = length (concat_map (item_lines tag) items)

-- ---- a group

lines_none : (tag : Kind → Bytes) → lines tag [] ≡ []
unfolding print_records concat_map
lines_none tag = refl

-- FN lines and the others
header-lines : (tag : Kind → Bytes) (items : List Item) → length (lines tag (concat_map start_record items)) + length (lines tag (concat_map data_record items)) ≡ bytes tag items
unfolding concat_map item_lines
header-lines tag [] = rw (lines_none tag)
header-lines tag (i ∷ is) =
    omega (
      arith,
      header-lines tag is,
      ap length (lines-append tag (start_record i) (concat_map start_record is)),
      length-append (lines tag (start_record i)) (lines tag (concat_map start_record is)),
      ap length (lines-append tag (data_record i) (concat_map data_record is)),
      length-append (lines tag (data_record i)) (lines tag (concat_map data_record is)),
      length-append (item_lines tag i) (concat_map (item_lines tag) is),
      length-append (lines tag (start_record i)) (lines tag (data_record i)),
    )

hits-max : (items : List Item) → hits items ≤ length items
unfolding hits
hits-max items = select_length (λ i. ltb 0 (count_of i)) items

group-max : (tag : Kind → Bytes) (m n : ℕ) (found hit : ℕ → Record) → Short tag found m → Short tag hit n → (items : List Item) → length items ≤ max_entries
    → length (lines tag (group found hit items)) ≤ length (lines tag (concat_map data_record items)) + (m + n)
unfolding group
group-max tag m n found hit f h [] few = rw (lines_none tag) (omega arith)
group-max tag m n found hit f h (i ∷ is) few =
    let items = i ∷ is in
    let a = found (length items) in
    let b = hit (hits items) in
    omega (
      arith,
      ap length (lines-append tag (concat_map data_record items) (a ∷ b ∷ [])),
      length-append (lines tag (concat_map data_record items)) (lines tag (a ∷ b ∷ [])),
      ap length (lines-append tag (a ∷ []) (b ∷ [])),
      length-append (lines tag (a ∷ [])) (lines tag (b ∷ [])),
      f (length items) few,
      h (hits items) (omega (arith, hits-max items)),
    )

-- ---- a section

six : (tag : Kind → Bytes) (a b c d e f : List Record)
    → length (lines tag (a ++ b ++ c ++ d ++ e ++ f))
    ≡ length (lines tag a) + length (lines tag b) + length (lines tag c) + length (lines tag d) + length (lines tag e) + length (lines tag f)
six tag a b c d e f = simp (lines-append, length-append)

section-max : (tag : Kind → Bytes) (s : Section) → length s.items ≤ max_entries
    → length (lines tag (section_records s)) ≤ 47 + section_tags tag + length s.test + length s.spelling + bytes tag s.items
unfolding section_records functions_of
section-max tag s few =
    let fs = sort compare_printed (filter is_function s.items) in
    let bs = filter is_branch s.items in
    let ls = filter is_line s.items in
    omega (
      arith,
      six tag (test_name s.test ∷ source_file s.spelling ∷ []) (concat_map start_record fs) (group functions_found functions_hit fs) (group branches_found branches_hit bs)
          (group lines_found lines_hit ls) (end_of_record ∷ []),
      head_length tag s.test s.spelling,
      end-length tag,
      group-max tag _ _ functions_found functions_hit (shorts tag).0 (shorts tag).1 fs
          (omega (arith, sort-length compare_printed (filter is_function s.items), select_length is_function s.items)),
      group-max tag _ _ branches_found branches_hit (shorts tag).2 (shorts tag).3 bs (omega (arith, select_length is_branch s.items)),
      group-max tag _ _ lines_found lines_hit (shorts tag).4 (shorts tag).5 ls (omega (arith, select_length is_line s.items)),
      header-lines tag fs,
      header-lines tag bs,
      header-lines tag ls,
      sort-each (item_lines tag) compare_printed (filter is_function s.items),
      kinds_each (item_lines tag) s.items,
    )

-- ---- sections

-- a section with fewer of its items
pub record Thins (tag : Kind → Bytes) (thin : Section → Section) : Type 0 where
  pub test : (s : Section) → (thin s).test ≡ s.test
  pub spelling : (s : Section) → (thin s).spelling ≡ s.spelling
  pub items : (s : Section) → length (thin s).items ≤ length s.items
  pub fewer : (s : Section) → bytes tag (thin s).items ≤ bytes tag s.items

items-few : (es : Report) → length (items_here es) ≤ length es
unfolding items_here is_section
items-few [] = omega arith
items-few (e ∷ es) = go e.item (items-few es)
  where
    go : (i : Item) → length (items_here es) ≤ length es → length (items_here (in_section (section_key e) i ∷ es)) ≤ length (e ∷ es)
    go (section_item spelling) h = omega arith
    go (function_item f) h = omega arith
    go (branch_item line block branch taken) h = omega arith
    go (line_item line count checksum) h = omega arith

module _ (tag : Kind → Bytes) (thin : Section → Section) (θ : Thins tag thin) where
  abbrev printed : List Section → ℕ
  printed all = length (print_sections tag (map thin all))

  header-max : (s : Section) (rest : List Section) → length s.items ≤ max_entries
      → printed (s ∷ rest) ≤ 47 + section_tags tag + length s.test + length s.spelling + bytes tag s.items + printed rest
  unfolding print_sections concat_map
  header-max s rest few =
      omega (
        arith,
        ap length (lines-append tag (section_records (thin s)) (concat_map section_records (map thin rest))),
        length-append (lines tag (section_records (thin s))) (lines tag (concat_map section_records (map thin rest))),
        section-max tag (thin s) (omega (arith, θ.items s)),
        ap length (θ.test s),
        ap length (θ.spelling s),
        θ.fewer s,
      )

  entry-max : (key : SectionKey) (i : Item) (es : Report) → length es ≤ max_entries → printed (sections es) + bytes tag (items_here es) ≤ report_most tag es
      → printed (sections (in_section key i ∷ es)) + bytes tag (items_here (in_section key i ∷ es)) ≤ entry_most tag (in_section key i) + report_most tag es
  unfolding sections section_here items_here is_section section_most concat_map
  entry-max key (section_item spelling) es few h =
      omega (arith, header-max (record { test = key.0; spelling = spelling; items = items_here es }) (sections es) (omega (arith, items-few es)))
  entry-max key (function_item f) es few h = omega (arith, length-append (item_lines tag (function_item f)) (concat_map (item_lines tag) (items_here es)))
  entry-max key (branch_item line block branch taken) es few h =
      omega (arith, length-append (item_lines tag (branch_item line block branch taken)) (concat_map (item_lines tag) (items_here es)))
  entry-max key (line_item line count checksum) es few h = omega (arith, length-append (item_lines tag (line_item line count checksum)) (concat_map (item_lines tag) (items_here es)))

  -- items of which no section has come yet are counted too
  counted : (es : Report) → length es ≤ max_entries → printed (sections es) + bytes tag (items_here es) ≤ report_most tag es
  unfolding sections items_here report_most print_sections print_records concat_map
  counted [] few = omega arith
  counted (e ∷ es) few = entry-max (section_key e) e.item es (omega arith) (counted es (omega arith))

  pub thinned_max : (es : Report) → length es ≤ max_entries → printed (sections es) ≤ report_most tag es
  thinned_max es few = omega (arith, counted es few)

all_stay : (tag : Kind → Bytes) → Thins tag (λ s. s)
all_stay tag = record { test = λ s. refl; spelling = λ s. refl; items = λ s. omega arith; fewer = λ s. omega arith }

-- THE BOUND
pub report-max : (tag : Kind → Bytes) (es : Report) → length es ≤ max_entries → length (print_report tag es) ≤ report_most tag es
unfolding print_report
report-max tag es few =
    omega (arith, thinned_max tag (λ s. s) (all_stay tag) es few, ap (λ (l : List Section). length (print_sections tag l)) (map-id (sections es)))
