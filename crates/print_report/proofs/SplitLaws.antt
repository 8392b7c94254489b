-- What a section's rows print, and what the rows behind it do. Assumes nothing.
use Prim.Native.Nat.{ℕ, zero, suc, ◌+◌, ◌-◌, ◌≤◌, ◌<◌}
use native.Mathlib.Omega.{arith}
use native.Mathlib.Nat.{add-zero}
use mathlib.Core.Path.{◌≡◌, refl, sym, ap, ap₂, ◌∙◌}
use mathlib.Core.Logic.{◌≢◌}
use mathlib.Core.Bool.{Bool, true, false}
use mathlib.Core.List.{List, [], ◌∷◌, ◌++◌, append_assoc, append-nil}
use lib.Dec.{eqb}
use borrow.Author.Tests.{ne_eqb}
use Rattle.table.specs.declared.Row.{Row}
use Rattle.table.specs.Places.{tabulate}
use Rattle.table.specs.Store.{row}
use Rattle.table.proofs.PlaceLaws.{by-lt}
use Rattle.table.proofs.TabulateLaws.{tabulate_cong, tabulate-split}
use Rattle.model.specs.declared.Kind.{Kind}
use Rattle.model.specs.Bytes.{Bytes}
use Rattle.model.specs.Lists.{filter, sort, concat_map}
use Rattle.model.specs.Record.{Record, test_name, source_file, functions_found, functions_hit, branches_found, branches_hit, lines_found, lines_hit, end_of_record}
use Rattle.model.specs.Report.{Item, section_item, function_item, branch_item, line_item, Entry, Report, SectionKey, section_key, in_section}
use Rattle.model.specs.Printing.{
  Section,
  is_section,
  is_function,
  is_branch,
  is_line,
  items_here,
  section_here,
  sections,
  compare_printed,
  functions_of,
  start_record,
  group,
  section_records,
  print_records,
  print_sections,
  print_report,
}
use Rattle.model.proofs.ListLaws.{All, select_all, select_none, select_append}
use Rattle.table_item.specs.Items.{kind_of, function_kind, branch_kind, line_kind, item_of}
use Rattle.table_item.specs.SortedItems.{item_at, item_from, items_at}
use Rattle.table_section.specs.Sections.{test_of, path_of, entry_at}
use Rattle.section.specs.Table.{Table}
use Rattle.table_item.proofs.AllLaws.{all-tabulate}
use Rattle.print_rows.proofs.PassLaws.{lines-append}
use Rattle.print_report.specs.Printing.{entries_from, printed_from, IsKindRange, function_lines}
use Rattle.print_report.proofs.KindLaws.{kind_in, kind_at, next-header}

-- ---- entries

-- items up to the next section
items-run : (f : ℕ → Entry) (n : ℕ) (rest : Report) → ((k : ℕ) → k < n → is_section (f k).item ≡ false) → items_here rest ≡ []
    → items_here (tabulate f n ++ rest) ≡ tabulate (λ k. (f k).item) n
unfolding tabulate items_here
items-run f zero rest h e = e
items-run f (suc n) rest h e = rw (h 0 (omega arith), items_here) (ap (λ (t : List Item). (f 0).item ∷ t) (items-run (λ k. f (suc k)) n rest (λ k l. h (suc k) (omega arith)) e))

not_header : (key : SectionKey) (i : Item) (items : List Item) → is_section i ≡ false → section_here (in_section key i) items ≡ []
unfolding section_here is_section
not_header key (section_item spelling) items h = cc
not_header key (function_item f) items h = refl
not_header key (branch_item line block branch taken) items h = refl
not_header key (line_item line count checksum) items h = refl

sections-run : (f : ℕ → Entry) (n : ℕ) (rest : Report) → ((k : ℕ) → k < n → is_section (f k).item ≡ false) → sections (tabulate f n ++ rest) ≡ sections rest
unfolding tabulate sections
sections-run f zero rest h = refl
sections-run f (suc n) rest h =
    rw (not_header (section_key (f 0)) (f 0).item (items_here (tabulate (λ k. f (suc k)) n ++ rest)) (h 0 (omega arith)))
    (sections-run (λ k. f (suc k)) n rest (λ k l. h (suc k) (omega arith)))

-- the section of a header entry, and those behind its items
sections-cons : (e : Entry) (f : ℕ → Entry) (n : ℕ) (rest : Report) (spelling : Bytes) → e.item ≡ section_item spelling
    → ((k : ℕ) → k < n → is_section (f k).item ≡ false) → items_here rest ≡ []
    → sections (e ∷ (tabulate f n ++ rest)) ≡ record { test = e.test; spelling = spelling; items = tabulate (λ k. (f k).item) n } ∷ sections rest
unfolding sections section_here
sections-cons e f n rest spelling header inner ends =
    rw (header, section_here)
    (ap₂ (λ (items : List Item) (t : List Section). record { test = e.test; spelling = spelling; items = items } ∷ t)
    (items-run f n rest inner ends) (sections-run f n rest inner))

-- ---- parts of what is said place by place

module _ {A : Type 0} (f : ℕ → A) where
  pub part-split : (from mid end : ℕ) → from ≤ mid → mid ≤ end
      → tabulate (λ k. f (from + k)) (end - from) ≡ tabulate (λ k. f (from + k)) (mid - from) ++ tabulate (λ k. f (mid + k)) (end - mid)
  part-split from mid end h l =
      ap (tabulate (λ k. f (from + k))) (let e : end - from ≡ (mid - from) + (end - mid) = omega arith in e)
      ∙ tabulate-split (λ k. f (from + k)) (mid - from) (end - mid)
      ∙ ap (λ (t : List A). tabulate (λ k. f (from + k)) (mid - from) ++ t)
      (tabulate_cong (λ k. f (from + ((mid - from) + k))) (λ k. f (mid + k)) (end - mid)
      (λ k i. ap f (let e : from + ((mid - from) + k) ≡ mid + k = omega arith in e)))

  part-cons : (lo end : ℕ) → lo < end → tabulate (λ k. f (lo + k)) (end - lo) ≡ f lo ∷ tabulate (λ k. f (lo + 1 + k)) (end - (lo + 1))
  unfolding tabulate
  part-cons lo end h =
      ap (tabulate (λ k. f (lo + k))) (let e : end - lo ≡ suc (end - (lo + 1)) = omega arith in e)
      ∙ ap₂ (λ (x : A) (t : List A). x ∷ t) (ap f (add-zero lo))
      (tabulate_cong (λ k. f (lo + suc k)) (λ k. f (lo + 1 + k)) (end - (lo + 1)) (λ k i. ap f (let e : lo + suc k ≡ lo + 1 + k = omega arith in e)))

  part_none : (lo end : ℕ) → end ≤ lo → tabulate (λ k. f (lo + k)) (end - lo) ≡ []
  unfolding tabulate
  part_none lo end h = ap (tabulate (λ k. f (lo + k))) (let e : end - lo ≡ 0 = omega arith in e)

-- ---- items by kind

-- each test is one of the kind
pub tests : (i : Item) → (is_section i ≡ eqb (kind_in i) 0) × (is_function i ≡ eqb (kind_in i) 1) × (is_branch i ≡ eqb (kind_in i) 2) × (is_line i ≡ eqb (kind_in i) 3)
unfolding is_section is_function is_branch is_line
tests (section_item spelling) = (refl, refl, refl, refl)
tests (function_item f) = (refl, refl, refl, refl)
tests (branch_item line block branch taken) = (refl, refl, refl, refl)
tests (line_item line count checksum) = (refl, refl, refl, refl)

-- the n items from a place on are of the kind
abbrev Kinds : (ℕ → Item) → ℕ → ℕ → Type 0
Kinds f n kind = (k : ℕ) → k < n → kind_in (f k) ≡ kind

module _ (test : Item → Bool) (of : ℕ) (is : (i : Item) → test i ≡ eqb (kind_in i) of) (f : ℕ → Item) (n kind : ℕ) (h : Kinds f n kind) where
  all_tested : All (λ i. test i ≡ eqb kind of) (tabulate f n)
  all_tested = all-tabulate (λ i. test i ≡ eqb kind of) f n (λ k l. is (f k) ∙ ap (λ (j : ℕ). eqb j of) (h k l))

  select_in : eqb kind of ≡ true → filter test (tabulate f n) ≡ tabulate f n
  select_in e = select_all test (tabulate f n) (rw e at all_tested)

  select_out : eqb kind of ≡ false → filter test (tabulate f n) ≡ []
  select_out e = select_none test (tabulate f n) (rw e at all_tested)

module _ (f g h : ℕ → Item) (a b c : ℕ) (F : Kinds f a 1) (G : Kinds g b 2) (H : Kinds h c 3) where
  abbrev three : List Item
  three = tabulate f a ++ (tabulate g b ++ tabulate h c)

  select_three : (test : Item → Bool) → filter test three ≡ filter test (tabulate f a) ++ (filter test (tabulate g b) ++ filter test (tabulate h c))
  select_three test =
      select_append test (tabulate f a) (tabulate g b ++ tabulate h c)
      ∙ ap (λ (t : List Item). filter test (tabulate f a) ++ t) (select_append test (tabulate g b) (tabulate h c))

  functions_in : filter is_function three ≡ tabulate f a
  functions_in =
      let is : (i : Item) → is_function i ≡ eqb (kind_in i) 1 = λ i. (tests i).1 in
      select_three is_function
      ∙ rw (select_in is_function 1 is f a 1 F refl, select_out is_function 1 is g b 2 G refl, select_out is_function 1 is h c 3 H refl) (append-nil (tabulate f a))

  branches_in : filter is_branch three ≡ tabulate g b
  branches_in =
      let is : (i : Item) → is_branch i ≡ eqb (kind_in i) 2 = λ i. (tests i).2 in
      select_three is_branch
      ∙ rw (select_out is_branch 2 is f a 1 F refl, select_in is_branch 2 is g b 2 G refl, select_out is_branch 2 is h c 3 H refl) (append-nil (tabulate g b))

  lines_in : filter is_line three ≡ tabulate h c
  lines_in =
      let is : (i : Item) → is_line i ≡ eqb (kind_in i) 3 = λ i. (tests i).3 in
      select_three is_line
      ∙ rw (select_out is_line 3 is f a 1 F refl, select_out is_line 3 is g b 2 G refl, select_in is_line 3 is h c 3 H refl)

-- ---- a section's lines

-- the lines of a section, by its parts, and what follows
abbrev pub section_lines : (tag : Kind → Bytes) → Bytes → Bytes → List Item → List Item → List Item → Bytes → Bytes
section_lines tag test spelling fs bs ls rest =
    print_records tag (test_name test ∷ source_file spelling ∷ [])
    ++ (function_lines tag (sort compare_printed fs)
    ++ (print_records tag (group branches_found branches_hit bs)
    ++ (print_records tag (group lines_found lines_hit ls) ++ (print_records tag (end_of_record ∷ []) ++ rest))))

print_six : (tag : Kind → Bytes) (a b c d e f g : List Record)
    → print_records tag (a ++ b ++ c ++ d ++ e ++ f ++ g)
    ≡ print_records tag a
    ++ (print_records tag b ++ print_records tag c
    ++ (print_records tag d ++ (print_records tag e ++ (print_records tag f ++ print_records tag g))))
print_six tag a b c d e f g = simp (lines-append, append_assoc)

pub lines_of : (tag : Kind → Bytes) (s : Section) (fs bs ls : List Item) (rest : List Section) → filter is_function s.items ≡ fs → filter is_branch s.items ≡ bs
    → filter is_line s.items ≡ ls
    → print_sections tag (s ∷ rest) ≡ section_lines tag s.test s.spelling fs bs ls (print_sections tag rest)
unfolding print_sections section_records functions_of concat_map
lines_of tag s fs bs ls rest F B L =
    rw (F, B, L)
    (print_six tag (test_name s.test ∷ source_file s.spelling ∷ []) (concat_map start_record (sort compare_printed fs))
    (group functions_found functions_hit (sort compare_printed fs)) (group branches_found branches_hit bs) (group lines_found lines_hit ls)
    (end_of_record ∷ []) (concat_map section_records rest))

-- ---- the rows of a section

header-item : (text : Bytes) (r : Row) → kind_of r ≡ 0 → item_of text r ≡ section_item (path_of text r)
unfolding item_of
header-item text r e = rw e

module _ {text ws : List ℕ} {index used n lo f b l : ℕ} (τ : Table text ws index used n) (header : kind_of (row ws index lo) ≡ 0) (here : lo < n)
    (φ : IsKindRange ws index n (lo + 1) function_kind f) (β : IsKindRange ws index n f branch_kind b) (λs : IsKindRange ws index n b line_kind l) where
  -- the rows of a kind's range are items of that kind
  kinds : {from end kind : ℕ} → IsKindRange ws index n from kind end → Kinds (item_from text ws index from) (end - from) kind
  kinds {from} {end} ρ k h =
      kind_at τ (from + k) (omega (arith, ρ.most)) ∙ ρ.each (from + k) (omega arith) (omega arith)

  inner : (k : ℕ) → lo < k → k < l → kind_of (row ws index k) ≢ 0
  inner k h i z =
      by-lt k f
      (λ q. omega (arith, φ.each k (omega arith) q))
      (λ q. by-lt k b (λ q'. omega (arith, β.each k q q')) (λ q'. omega (arith, λs.each k q' i)))

  not_section : (k : ℕ) → k < l - (lo + 1) → is_section (entry_at text ws index (lo + 1 + k)).item ≡ false
  not_section k h =
      (tests (entry_at text ws index (lo + 1 + k)).item).0
      ∙ ne_eqb (kind_in (entry_at text ws index (lo + 1 + k)).item) 0
      (λ z. inner (lo + 1 + k) (omega arith) (omega arith) (sym (kind_at τ (lo + 1 + k) (omega (arith, λs.most))) ∙ z))

  -- behind the section's rows no item follows
  ends : items_here (entries_from text ws index n l) ≡ []
  unfolding items_here
  ends =
      by-lt l n
      (λ h. ap items_here (part-cons (entry_at text ws index) l n h) ∙ rw (header-here h, items_here))
      (λ h. ap items_here (part_none (entry_at text ws index) l n h))
    where
      header-here : l < n → is_section (entry_at text ws index l).item ≡ true
      header-here h = (tests (entry_at text ws index l).item).0 ∙ ap (λ (k : ℕ). eqb k 0) (kind_at τ l h ∙ next-header τ (omega arith) φ β λs h)

  abbrev pub items : List Item
  items = items_at text ws index (lo + 1) (l - (lo + 1))

  items_three : items
      ≡ items_at text ws index (lo + 1) (f - (lo + 1)) ++ (items_at text ws index f (b - f) ++ items_at text ws index b (l - b))
  items_three =
      part-split (item_at text ws index) (lo + 1) f l φ.least (omega (arith, β.least, λs.least))
      ∙ ap (λ (t : List Item). items_at text ws index (lo + 1) (f - (lo + 1)) ++ t) (part-split (item_at text ws index) f b l β.least λs.least)

  pub items-functions : filter is_function items ≡ items_at text ws index (lo + 1) (f - (lo + 1))
  items-functions = ap (filter is_function) items_three ∙ functions_in _ _ _ _ _ _ (kinds φ) (kinds β) (kinds λs)

  pub items-branches : filter is_branch items ≡ items_at text ws index f (b - f)
  items-branches = ap (filter is_branch) items_three ∙ branches_in _ _ _ _ _ _ (kinds φ) (kinds β) (kinds λs)

  pub items-lines : filter is_line items ≡ items_at text ws index b (l - b)
  items-lines = ap (filter is_line) items_three ∙ lines_in _ _ _ _ _ _ (kinds φ) (kinds β) (kinds λs)

  -- the section of a place, and those of the rows behind it
  abbrev pub section_at : Section
  section_at = record { test = test_of text (row ws index lo); spelling = path_of text (row ws index lo); items = items }

  pub sections_at : sections (entries_from text ws index n lo) ≡ section_at ∷ sections (entries_from text ws index n l)
  sections_at =
      ap sections
      (part-cons (entry_at text ws index) lo n here
      ∙ ap (λ (t : Report). entry_at text ws index lo ∷ t)
      (part-split (entry_at text ws index) (lo + 1) l n (omega (arith, φ.least, β.least, λs.least)) λs.most))
      ∙ sections-cons (entry_at text ws index lo) (λ k. entry_at text ws index (lo + 1 + k)) (l - (lo + 1)) (entries_from text ws index n l)
      (path_of text (row ws index lo)) (header-item text (row ws index lo) header) not_section ends

module _ (tag : Kind → Bytes) {text ws : List ℕ} {index used n lo f b l : ℕ} (τ : Table text ws index used n) (header : kind_of (row ws index lo) ≡ 0) (here : lo < n)
    (φ : IsKindRange ws index n (lo + 1) function_kind f) (β : IsKindRange ws index n f branch_kind b) (λs : IsKindRange ws index n b line_kind l) where
  -- THE SECTION AT A PLACE: its lines, and then what the rows behind it print
  pub section-printed : printed_from tag text index n ws lo
      ≡ section_lines tag (test_of text (row ws index lo)) (path_of text (row ws index lo)) (items_at text ws index (lo + 1) (f - (lo + 1)))
      (items_at text ws index f (b - f)) (items_at text ws index b (l - b)) (printed_from tag text index n ws l)
  unfolding print_report
  section-printed =
      ap (print_sections tag) (sections_at τ header here φ β λs)
      ∙ lines_of tag (section_at τ header here φ β λs)
      (items_at text ws index (lo + 1) (f - (lo + 1))) (items_at text ws index f (b - f)) (items_at text ws index b (l - b))
      (sections (entries_from text ws index n l)) (items-functions τ header here φ β λs) (items-branches τ header here φ β λs) (items-lines τ header here φ β λs)
