-- A filtered section: its lines are those of the rows that stay. Assumes nothing.
use Prim.Native.Nat.{ℕ, ◌+◌, ◌-◌, ◌*◌, ◌^◌, ◌<◌}
use lib.ListN.{length}
use native.Mathlib.Omega.{arith}
use mathlib.Core.Path.{◌≡◌, refl, sym, ap, ap₂, ◌∙◌}
use mathlib.Core.Bool.{Bool, true, false}
use mathlib.Core.List.{List, [], ◌∷◌, ◌++◌, map, append_assoc, append-nil}
use Rattle.ordmap.proofs.Results.{impossible}
use Rattle.table.specs.declared.Row.{Row}
use Rattle.table.specs.Store.{row}
use Rattle.model.specs.declared.Kind.{Kind}
use Rattle.model.specs.declared.Bound.{Bound}
use Rattle.model.specs.declared.Range.{Range}
use Rattle.std.specs.Prelude.{if◌then◌else◌}
use Rattle.model.specs.Bytes.{Bytes}
use Rattle.model.specs.Lists.{filter, sort, concat_map}
use Rattle.model.specs.Record.{end_of_record}
use Rattle.model.specs.Report.{Item, section_item, function_item, branch_item, line_item, Report, compare_items}
use Rattle.model.specs.Printing.{Section, is_function, is_branch, is_line, functions_of, sections, compare_printed, print_records, print_sections}
use Rattle.model.specs.Filter.{is_held, has_start, filter_items, filter_section}
use Rattle.model.proofs.ListLaws.{All, all_map, all_select, all-sort, select_all, select_none, select_append}
use Rattle.table_item.specs.Items.{kind_of, branch_kind, line_kind}
use Rattle.table_item.specs.SortedItems.{items_at}
use Rattle.table_section.specs.Sections.{entries_at}
use Rattle.print_rows.specs.Emit.{RoomFor, Emitted}
use Rattle.print_rows.proofs.EmitLaws.{room-first}
use Rattle.print_report.specs.declared.KindRanges.{KindRanges}
use Rattle.print_report.specs.Printing.{entries_from, PrintableTable, AreKindRanges, UnchangedBefore, RequiredLength, SectionPrinted, head_lines, function_lines, group_lines}
use Rattle.print_report.proofs.KindLaws.{next-header}
use Rattle.print_report.proofs.SplitLaws.{section_lines, lines_of, items, items-functions, items-branches, items-lines, section_at, sections_at}
use Rattle.print_report.proofs.TableLaws.{entries-kept}
use Rattle.print_report.proofs.LoopLaws.{Prints, entries_none, entries-all, Measured}
use Rattle.filter.specs.declared.Kept.{Kept}
use Rattle.filter.specs.Filtered.{filtered_from, functions_left, KeptRows, SectionPrintable, kept_lines}
use Rattle.filter.proofs.ResortLaws.{all_held, printed_again}

-- ---- items by kind

-- those selected pass
passing : (test : Item → Bool) (l : List Item) → All (λ i. test i ≡ true) (filter test l)
unfolding filter
passing test [] = tt
passing test (x ∷ l) = go (test x) refl (passing test l)
  where
    go : (t : Bool) → test x ≡ t → All (λ i. test i ≡ true) (filter test l) → All (λ i. test i ≡ true)
        (if t then x ∷ filter test l else filter test l)
    go true e h = (e, h)
    go false e h = h

-- of two kinds, an item is one
abbrev Excludes : (Item → Bool) → (Item → Bool) → Type 0
Excludes a b = (i : Item) → a i ≡ true → b i ≡ false

function-branch : Excludes is_function is_branch
unfolding is_function is_branch
function-branch (section_item s) h = refl
function-branch (function_item f) h = refl
function-branch (branch_item l b h t) e = impossible cc
function-branch (line_item l c s) h = refl

function-line : Excludes is_function is_line
unfolding is_function is_line
function-line (section_item s) h = refl
function-line (function_item f) h = refl
function-line (branch_item l b h t) e = refl
function-line (line_item l c s) h = impossible cc

branch-line : Excludes is_branch is_line
unfolding is_branch is_line
branch-line (section_item s) h = refl
branch-line (function_item f) h = refl
branch-line (branch_item l b h t) e = refl
branch-line (line_item l c s) h = impossible cc

excludes_back : {a b : Item → Bool} → Excludes a b → Excludes b a
excludes_back {a} {b} x i h = go (a i) refl
  where
    go : (t : Bool) → a i ≡ t → t ≡ false
    go true e = let z : false ≡ true = sym (x i e) ∙ h in cc
    go false e = refl

-- ---- what is left of a section's items

module _ (bound : Bound) (ranges : List Range) (its fs bs ls : List Item) (F : filter is_function its ≡ fs) (B : filter is_branch its ≡ bs)
    (L : filter is_line its ≡ ls) where
  abbrev functions : List Item
  functions = sort compare_items (functions_left bound ranges fs)

  abbrev branches : List Item
  branches = filter (is_held ranges) bs

  abbrev lines : List Item
  lines = filter (is_held ranges) ls

  filter-is : filter_items bound ranges its ≡ functions ++ branches ++ lines
  unfolding filter_items functions_of
  filter-is = rw (F, B, L)

  all_fs : All (λ i. is_function i ≡ true) fs
  all_fs = rw F at (passing is_function its)

  all-functions : All (λ i. is_function i ≡ true) functions
  all-functions =
      all-sort (λ i. is_function i ≡ true) compare_items (functions_left bound ranges fs)
      (all_held (λ i. is_function i ≡ true) bound ranges (filter has_start (sort compare_printed fs))
      (all_select (λ i. is_function i ≡ true) has_start (sort compare_printed fs) (all-sort (λ i. is_function i ≡ true) compare_printed fs all_fs)))

  all-branches : All (λ i. is_branch i ≡ true) branches
  all-branches = all_select (λ i. is_branch i ≡ true) (is_held ranges) bs (rw B at (passing is_branch its))

  all_lines : All (λ i. is_line i ≡ true) lines
  all_lines = all_select (λ i. is_line i ≡ true) (is_held ranges) ls (rw L at (passing is_line its))

  kind_in_lem : (test : Item → Bool) (l : List Item) → All (λ i. test i ≡ true) l → filter test l ≡ l
  kind_in_lem test l h = select_all test l h

  kind-out : (test kind : Item → Bool) → Excludes kind test → (l : List Item) → All (λ i. kind i ≡ true) l → filter test l ≡ []
  kind-out test kind x l h = select_none test l (all_map (λ i. kind i ≡ true) (λ i. test i ≡ false) x l h)

  select_parts : (test : Item → Bool) → filter test (filter_items bound ranges its) ≡ filter test functions ++ filter test branches ++ filter test lines
  select_parts test =
      ap (filter test) filter-is ∙ select_append test (functions ++ branches) lines
      ∙ ap (λ (l : List Item). l ++ filter test lines) (select_append test functions branches)

  functions-left : filter is_function (filter_items bound ranges its) ≡ functions
  functions-left =
      select_parts is_function
      ∙ rw (
        kind_in_lem is_function functions all-functions,
        kind-out is_function is_branch (excludes_back function-branch) branches all-branches,
        kind-out is_function is_line (excludes_back function-line) lines all_lines,
      ) (append-nil (functions ++ []) ∙ append-nil functions)

  branches-left : filter is_branch (filter_items bound ranges its) ≡ branches
  branches-left =
      select_parts is_branch
      ∙ rw (
        kind-out is_branch is_function function-branch functions all-functions,
        kind_in_lem is_branch branches all-branches,
        kind-out is_branch is_line (excludes_back branch-line) lines all_lines,
      ) (append-nil branches)

  lines_left : filter is_line (filter_items bound ranges its) ≡ lines
  lines_left =
      select_parts is_line
      ∙ rw (
        kind-out is_line is_function function-line functions all-functions,
        kind-out is_line is_branch branch-line branches all-branches,
        kind_in_lem is_line lines all_lines,
      ) refl

  left_again : sort compare_printed functions ≡ functions_left bound ranges fs
  left_again = printed_again bound ranges fs all_fs

module _ (tag : Kind → Bytes) (bound : Bound) (ranges : List Range) (its fs bs ls : List Item) (F : filter is_function its ≡ fs) (B : filter is_branch its ≡ bs)
    (L : filter is_line its ≡ ls) where
  -- THE LINES OF A FILTERED SECTION: the functions left in printing order, the branches and lines that are held
  filtered-lines : (s : Section) → s.items ≡ its → (rest : List Section)
      → print_sections tag (filter_section bound ranges s ∷ rest)
      ≡ section_lines tag s.test s.spelling (sort compare_items (functions_left bound ranges fs)) (filter (is_held ranges) bs) (filter (is_held ranges) ls) (print_sections tag rest)
  unfolding filter_section
  filtered-lines s e rest =
      lines_of tag (filter_section bound ranges s) (sort compare_items (functions_left bound ranges fs)) (filter (is_held ranges) bs) (filter (is_held ranges) ls) rest
      (ap (λ (l : List Item). filter is_function (filter_items bound ranges l)) e ∙ functions-left bound ranges its fs bs ls F B L)
      (ap (λ (l : List Item). filter is_branch (filter_items bound ranges l)) e ∙ branches-left bound ranges its fs bs ls F B L)
      (ap (λ (l : List Item). filter is_line (filter_items bound ranges l)) e ∙ lines_left bound ranges its fs bs ls F B L)

-- ---- the section at a place

module _ {text ws ws' : List ℕ} {index used n lo spare : ℕ} {header : Row} {r : KindRanges} {kept : Kept} (π : PrintableTable text ws index used n spare)
    (more : lo < n) (kind : kind_of (row ws index lo) ≡ 0) (is : header ≡ row ws index lo) (ρ : AreKindRanges ws index n (lo + 1) r) (bound : Bound) (ranges : List Range)
    (κ : KeptRows bound ranges text ws ws' index (lo + 1) spare r kept) where
  pub section_ready : SectionPrintable text ws' header spare kept
  section_ready = record {
    named = rw is (π.table.whole lo more).named;
    functions = κ.functions.rows.printable;
    branches = κ.branches.rows.printable;
    lines = κ.lines.rows.printable;
    few = (κ.functions.few, κ.branches.few, κ.lines.few);
  }

module _ (tag : Kind → Bytes) {text ws ws' : List ℕ} {index used n lo spare : ℕ} {header : Row} {r : KindRanges} {kept : Kept} (π : PrintableTable text ws index used n spare)
    (more : lo < n) (kind : kind_of (row ws index lo) ≡ 0) (is : header ≡ row ws index lo) (ρ : AreKindRanges ws index n (lo + 1) r) (bound : Bound) (ranges : List Range)
    (κ : KeptRows bound ranges text ws ws' index (lo + 1) spare r kept) where
  abbrev fs : List Item
  fs = items_at text ws index (lo + 1) (r.functions - (lo + 1))

  abbrev bs : List Item
  bs = items_at text ws index r.functions (r.branches - r.functions)

  abbrev ls : List Item
  ls = items_at text ws index r.branches (r.lines - r.branches)

  abbrev end : Bytes
  end = print_records tag (end_of_record ∷ [])

  abbrev rest : Bytes
  rest = filtered_from tag bound ranges text index n ws r.lines

  lines_of_items : filtered_from tag bound ranges text index n ws lo
      ≡ head_lines tag text header
      ++ (function_lines tag (functions_left bound ranges fs)
      ++ (group_lines tag branch_kind (filter (is_held ranges) bs) ++ (group_lines tag line_kind (filter (is_held ranges) ls) ++ (end ++ rest))))
  lines_of_items =
      ap (λ (l : List Section). print_sections tag (map (filter_section bound ranges) l))
      (sections_at π.table kind more ρ.functions ρ.branches ρ.lines)
      ∙ filtered-lines tag bound ranges its fs bs ls F B L (section_at π.table kind more ρ.functions ρ.branches ρ.lines) refl
      (map (filter_section bound ranges) (sections (entries_from text ws index n r.lines)))
      ∙ ap₂ (λ (o : Row) (l : List Item). head_lines tag text o ++ (function_lines tag l
      ++ (group_lines tag branch_kind (filter (is_held ranges) bs) ++ (group_lines tag line_kind (filter (is_held ranges) ls) ++ (end ++ rest)))))
      (sym is) (left_again bound ranges its fs bs ls F B L)
    where
      its : List Item
      its = items π.table kind more ρ.functions ρ.branches ρ.lines

      F : filter is_function its ≡ fs
      F = items-functions π.table kind more ρ.functions ρ.branches ρ.lines

      B : filter is_branch its ≡ bs
      B = items-branches π.table kind more ρ.functions ρ.branches ρ.lines

      L : filter is_line its ≡ ls
      L = items-lines π.table kind more ρ.functions ρ.branches ρ.lines

  regroup : (a b c d e f : Bytes) → a ++ (b ++ (c ++ (d ++ (e ++ f)))) ≡ (a ++ (b ++ (c ++ (d ++ e)))) ++ f
  regroup a b c d e f = simp append_assoc

  kept-is : kept_lines tag text ws' header spare kept
      ≡ head_lines tag text header
      ++ (function_lines tag (functions_left bound ranges fs)
      ++ (group_lines tag branch_kind (filter (is_held ranges) bs) ++ (group_lines tag line_kind (filter (is_held ranges) ls) ++ end)))
  kept-is = rw (κ.functions.are, κ.branches.are, κ.lines.are)

  pub section-first : filtered_from tag bound ranges text index n ws lo ≡ kept_lines tag text ws' header spare kept ++ rest
  section-first =
      lines_of_items
      ∙ regroup (head_lines tag text header) (function_lines tag (functions_left bound ranges fs)) (group_lines tag branch_kind (filter (is_held ranges) bs))
      (group_lines tag line_kind (filter (is_held ranges) ls)) end rest
      ∙ ap (λ (t : Bytes). t ++ rest) (sym kept-is)

  pub section-room : (write : Bool) (out : Bytes) (at : ℕ) → RoomFor write out at (filtered_from tag bound ranges text index n ws lo)
      → RoomFor write out at (kept_lines tag text ws' header spare kept)
  section-room write out at h = room-first write out at (kept_lines tag text ws' header spare kept) rest (rw section-first at h)

  pub section_done : {write : Bool} {out out' : Bytes} {at e : ℕ} → Emitted write out out' at (kept_lines tag text ws' header spare kept) e
      → SectionPrinted (filtered_from tag bound ranges text index n) write ws ws' out out' index n lo spare at (record { next = r.lines; at = e })
  section_done ε = record {
    lines = kept_lines tag text ws' header spare kept;
    first = section-first;
    emitted = ε;
    more = omega (arith, ρ.functions.least, ρ.branches.least, ρ.lines.least);
    most = ρ.lines.most;
    header = next-header π.table (omega arith) ρ.functions ρ.branches ρ.lines;
    spared = κ.spared;
  }

-- ---- all sections

pub filtered_prints : (tag : Kind → Bytes) (bound : Bound) (ranges : List Range) {text ws : List ℕ} {index used n spare : ℕ} → PrintableTable text ws index used n spare
    → Prints (filtered_from tag bound ranges text index n) ws n spare
unfolding print_sections print_records sections concat_map
filtered_prints tag bound ranges {text} {ws} {index} {used} {n} π = record {
  same = λ ws' σ lo. ap (λ (e : Report). print_sections tag (map (filter_section bound ranges) (sections e))) (entries-kept π σ lo);
  none = λ lo h. ap (λ (e : Report). print_sections tag (map (filter_section bound ranges) (sections e))) (entries_none text ws index n lo h);
}

-- what the length of a filtered report promises
pub filtered_measured : (tag : Kind → Bytes) (bound : Bound) (ranges : List Range) {text ws ws₁ out out₁ : List ℕ} {index used n spare needed : ℕ}
    → PrintableTable text ws index used n spare → UnchangedBefore ws ws₁ spare
    → RequiredLength out out₁ (filtered_from tag bound ranges text index n ws 0) needed → length out * 1 < 2 ^ 63
    → Measured (filtered_from tag bound ranges text index n) (print_sections tag (map (filter_section bound ranges) (sections (entries_at text ws index n))))
    ws ws₁ out out₁ n spare needed
filtered_measured tag bound ranges {text} {ws} {index = index} {n = n} π spared enough few = record {
  prints = filtered_prints tag bound ranges π;
  is = ap (λ (r : Report). print_sections tag (map (filter_section bound ranges) (sections r))) (entries-all text ws index n);
  spared = spared;
  enough = enough;
  few = few;
}
