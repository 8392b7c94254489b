-- A report's sections with some items left out, printed and read: the report that is left, without the sections that were emptied. An emptied
-- section counts as one entry while it is read, which is no more than it had. Assumes nothing.
use Prim.Native.Nat.{ℕ, suc, ◌+◌, ◌≤◌}
use native.Mathlib.Omega.{arith}
use mathlib.Core.Path.{◌≡◌, refl, sym, ap, ◌∙◌, subst}
use mathlib.Core.Bool.{Bool, true, false}
use mathlib.Core.List.{List, [], ◌∷◌, ◌++◌, map, append_assoc, append-nil, Memᴰ as Member}
use lib.Dec.{leb}
use lib.ListN.{length, length-append, length-map}
use borrow.Author.Tests.{le-leb}
use Rattle.ordmap.proofs.Members.{sorted-right}
use Rattle.model.specs.declared.Kind.{Kind}
use Rattle.model.specs.declared.Range.{Range}
use Rattle.std.specs.Prelude.{if◌then◌else◌}
use Rattle.model.specs.Lists.{filter, concat_map, sort}
use Rattle.model.specs.Bytes.{Bytes, compare_bytes}
use Rattle.model.specs.Path.{Path, components}
use Rattle.model.specs.Answer.{accepted}
use Rattle.model.specs.Limits.{u32_max}
use Rattle.model.specs.Record.{Record}
use Rattle.model.specs.Tags.{Lawful}
use Rattle.model.specs.Report.{Item, section_item, Entry, Report, item_key, SectionKey, compare_keys, entry_key, in_section, within}
use Rattle.model.specs.Reading.{outside, open_section, entries, keep_section, name_section, effect, lines, read_lines, read_text}
use Rattle.model.specs.Printing.{Section, is_section, is_function, is_branch, is_line, functions_of, group, sections, section_records, print_records, print_sections}
use Rattle.model.specs.Valid.{ItemFits, Valid}
use Rattle.model.proofs.ListLaws.{All, all_append, select_append}
use Rattle.model.proofs.Clean.{RecordFits}
use Rattle.model.proofs.TextLaws.{lines_print}
use Rattle.model.proofs.RunLaws.{run, run-append, read_lines-run}
use Rattle.model.proofs.Passes.{SortedItems, InSection}
use Rattle.model.proofs.SectionLaws.{section-run}
use Rattle.model.proofs.PrintLaws.{one-lines, section-fits}
use Rattle.model.proofs.Blocks.{
  Block,
  block_entries,
  block_section,
  blocks_entries,
  Good,
  SortedEntries,
  blocks_of,
  good_blocks,
  sections_of_blocks,
  sorted-items,
  past-kept,
}
use Rattle.cutting.specs.Cutting.{is_line_or_branch, is_held_line_or_branch, lines_and_branches, held_lines_and_branches, left_entries, cut_by}
use Rattle.cutting.proofs.Subs.{Sub, done, keep, sub-none, sub-append, sub-map, sub-length, sub_All, sub-sorted}

-- ---- an emptied section

-- its lines leave what was kept
emptied_run : (limit : ℕ) (kept : Report) (test spelling t : Bytes) → length kept + 1 ≤ limit
    → run limit (section_records (record { test = test; spelling = spelling; items = [] })) (outside kept t) ≡ accepted (outside kept [])
unfolding run effect name_section outside open_section within entries keep_section section_records functions_of filter concat_map group is_function is_branch is_line sort
emptied_run limit kept test spelling t room =
    let a : leb (length kept + 0) limit ≡ true = le-leb (length kept + 0) limit (omega arith) in
    let b : leb (length kept + 1) limit ≡ true = le-leb (length kept + 1) limit (omega arith) in
    rw a (rw b (rw a))

-- ---- what keeps some of each section's items

-- some of a section's items, in their order
abbrev pub KeepsSome : (List Item → List Item) → Type 0
KeepsSome kept = (items : List Item) → SortedItems items → Sub (kept items) items

-- of the lines and branches those that the ranges hold
abbrev pub KeepsHeld : List Range → (List Item → List Item) → Type 0
KeepsHeld ranges kept =
    (items : List Item) → SortedItems items → All InSection items → filter is_line_or_branch (kept items) ≡ filter (is_held_line_or_branch ranges) items

-- a section with what is left of it, read after others
one-run : (limit : ℕ) (before : Report) (test spelling : Bytes) (path : Path) (l : List Item) (rest : Report) → SortedItems l → All InSection l → All ItemFits l
    → components spelling ≡ path → SortedEntries (before ++ (left_entries (test, path) spelling l ++ rest)) → length before + suc (length l) ≤ limit
    → run limit (section_records (record { test = test; spelling = spelling; items = l })) (outside before [])
    ≡ accepted (outside (before ++ left_entries (test, path) spelling l) [])
unfolding left_entries is_section
one-run limit before test spelling path [] rest s h f e t room =
    emptied_run limit before test spelling [] (omega arith) ∙ ap (λ (r : Report). accepted (outside r [])) (sym (append-nil before))
one-run limit before test spelling path (i ∷ is) rest s h f e t room =
    section-run limit before test spelling (i ∷ is) s h f room i is refl
    (rw e (past-kept before (in_section (test, path) (section_item spelling)) (map (in_section (test, path)) (i ∷ is) ++ rest) refl t)) []
    ∙ ap (λ (p : Path). accepted (outside (before ++ left_entries (test, p) spelling (i ∷ is)) [])) e

left-sub : (key : SectionKey) (spelling : Bytes) (l items : List Item) → Sub l items
    → Sub (left_entries key spelling l) (map (in_section key) (section_item spelling ∷ items))
unfolding left_entries
left-sub key spelling [] items s = sub-none (map (in_section key) (section_item spelling ∷ items))
left-sub key spelling (i ∷ is) items s = sub-map (in_section key) (keep s)

-- the items of each block are sorted
blocks_sorted : (blocks : List Block) → SortedEntries (blocks_entries blocks) → All (λ (b : Block). SortedItems b.items) blocks
unfolding concat_map
blocks_sorted [] s = tt
blocks_sorted (b ∷ bs) s = (
  sorted-items b.test b.path b.items (blocks_entries bs) s.1,
  blocks_sorted bs (sorted-right entry_key compare_keys (block_entries b) (blocks_entries bs) s),
)

module _ (kept : List Item → List Item) (some : KeepsSome kept) where
  -- the section with what is kept
  abbrev pub cut_section : Section → Section
  cut_section s = record { test = s.test; spelling = s.spelling; items = kept s.items }

  -- a block's entries when it is cut
  abbrev left_of : Block → Report
  left_of b = left_entries (b.test, b.path) b.spelling (kept b.items)

  abbrev records : List Block → List Record
  records blocks = concat_map section_records (map cut_section (map block_section blocks))

  blocks_sub : (blocks : List Block) → All (λ (b : Block). SortedItems b.items) blocks → Sub (concat_map left_of blocks) (blocks_entries blocks)
  unfolding concat_map
  blocks_sub [] h = done
  blocks_sub (b ∷ bs) h =
      sub-append (left-sub (b.test, b.path) b.spelling (kept b.items) b.items (some b.items h.0)) (blocks_sub bs h.1)

  blocks_run : (limit : ℕ) (before : Report) (blocks : List Block) → SortedEntries (before ++ concat_map left_of blocks) → All Good blocks
      → All (λ (b : Block). SortedItems b.items) blocks → length before + length (blocks_entries blocks) ≤ limit
      → run limit (records blocks) (outside before []) ≡ accepted (outside (before ++ concat_map left_of blocks) [])
  unfolding concat_map run
  blocks_run limit before [] s g h n = ap (λ (r : Report). accepted (outside r [])) (sym (append-nil before))
  blocks_run limit before (b ∷ bs) s g h n =
      run-append limit (section_records (cut_section (block_section b))) (records bs) (outside before []) (outside (before ++ left_of b) []) one
      ∙ blocks_run limit (before ++ left_of b) bs (rw assoc s) g.1 h.1
      (omega (arith, n, size, length-append before (left_of b), sub-length (left-sub (b.test, b.path) b.spelling (kept b.items) b.items sub)))
      ∙ ap (λ (r : Report). accepted (outside r [])) assoc
    where
      sub : Sub (kept b.items) b.items
      sub = some b.items h.0

      assoc : before ++ left_of b ++ concat_map left_of bs ≡ before ++ (left_of b ++ concat_map left_of bs)
      assoc = append_assoc before (left_of b) (concat_map left_of bs)

      size : length (block_entries b ++ blocks_entries bs) ≡ length (block_entries b) + length (blocks_entries bs)
      size = length-append (block_entries b) (blocks_entries bs)

      own : length (block_entries b) ≡ suc (length b.items)
      own = length-map (section_item b.spelling ∷ b.items) (in_section (b.test, b.path))

      one : run limit (section_records (cut_section (block_section b))) (outside before []) ≡ accepted (outside (before ++ left_of b) [])
      one =
          one-run limit before b.test b.spelling b.path (kept b.items) (concat_map left_of bs) (sub-sorted item_key compare_bytes sub h.0)
          (sub_All InSection sub g.0.shaped.in_section_lem) (sub_All ItemFits sub g.0.fits) g.0.spelled s
          (omega (arith, n, size, own, sub-length sub))

  blocks_fit : (blocks : List Block) → All Good blocks → All (λ (b : Block). SortedItems b.items) blocks → length (blocks_entries blocks) ≤ u32_max
      → All RecordFits (records blocks)
  unfolding concat_map
  blocks_fit [] g h n = tt
  blocks_fit (b ∷ bs) g h n =
      all_append RecordFits (section_records (cut_section (block_section b))) (records bs)
      (section-fits b.test b.spelling (kept b.items) g.0.test-text g.0.spelling-text
      (sub_All ItemFits (some b.items h.0) g.0.fits) (omega (arith, n, size, own, sub-length (some b.items h.0))))
      (blocks_fit bs g.1 h.1 (omega (arith, n, size)))
    where
      size : length (block_entries b ++ blocks_entries bs) ≡ length (block_entries b) + length (blocks_entries bs)
      size = length-append (block_entries b) (blocks_entries bs)

      own : length (block_entries b) ≡ suc (length b.items)
      own = length-map (section_item b.spelling ∷ b.items) (in_section (b.test, b.path))

  -- by sections or by blocks
  cut_blocks : (blocks : List Block) → All Good blocks
      → concat_map (λ (s : Section). left_entries (s.test, components s.spelling) s.spelling (kept s.items)) (map block_section blocks) ≡ concat_map left_of blocks
  unfolding concat_map
  cut_blocks [] g = refl
  cut_blocks (b ∷ bs) g = rw g.0.spelled (ap (λ (r : Report). left_of b ++ r) (cut_blocks bs g.1))

  -- a valid report in blocks, whole and cut
  record InBlocks (r : Report) : Type 0 where
    blocks : List Block
    whole : r ≡ blocks_entries blocks
    shown : sections r ≡ map block_section blocks
    left : cut_by kept r ≡ concat_map left_of blocks
    good : All Good blocks
    sorted : All (λ (b : Block). SortedItems b.items) blocks

  in_blocks : (r : Report) → Valid r → InBlocks r
  unfolding cut_by
  in_blocks r R =
      let (blocks, e, h) = blocks_of r R in
      let good : All Good blocks = good_blocks r R blocks (λ x k. subst (λ (l : Report). Member x l) (sym e) k) h in
      let shown : sections r ≡ map block_section blocks = ap sections e ∙ sections_of_blocks blocks h in
      record {
        blocks = blocks;
        whole = e;
        shown = shown;
        left = ap (concat_map (λ (s : Section). left_entries (s.test, components s.spelling) s.spelling (kept s.items))) shown ∙ cut_blocks blocks good;
        good = good;
        sorted = blocks_sorted blocks (subst SortedEntries e R.sorted);
      }

  -- SOME OF THE ENTRIES, in their order
  pub cut_sub : (r : Report) → Valid r → Sub (cut_by kept r) r
  cut_sub r R =
      let B : InBlocks r = in_blocks r R in
      subst (λ (l : Report). Sub (cut_by kept r) l) (sym B.whole) (rw B.left (blocks_sub B.blocks B.sorted))

  -- READ: the printed sections, of which some may be empty, are read as what is left
  pub cut_read : (tag : Kind → Bytes) (L : Lawful tag) (limit : ℕ) (r : Report) → Valid r → length r ≤ limit → limit ≤ u32_max
      → read_text tag limit (print_sections tag (map cut_section (sections r))) ≡ accepted (cut_by kept r)
  unfolding read_text print_sections outside
  cut_read tag L limit r R n m =
      ap (λ (s : List Section). read_lines tag limit 1 (lines (print_records tag (concat_map section_records (map cut_section s)))) (outside [] [])) B.shown
      ∙ ap (λ (ls : List Bytes). read_lines tag limit 1 ls (outside [] [])) (lines_print tag (records B.blocks) (one-lines tag L (records B.blocks) fit))
      ∙ read_lines-run tag L limit 1 (records B.blocks) (outside [] []) (outside (concat_map left_of B.blocks) []) fit
      (blocks_run limit [] B.blocks (sub-sorted entry_key compare_keys (blocks_sub B.blocks B.sorted) (subst SortedEntries B.whole R.sorted))
      B.good B.sorted (omega (arith, size, n))) refl
      ∙ ap accepted (sym B.left)
    where
      B : InBlocks r
      B = in_blocks r R

      size : length r ≡ length (blocks_entries B.blocks)
      size = ap length B.whole

      fit : All RecordFits (records B.blocks)
      fit = blocks_fit B.blocks B.good B.sorted (omega (arith, size, n, m))

-- ---- lines and branches

select_map : {A B : Type 0} (f : A → B) (test : B → Bool) (l : List A) → filter test (map f l) ≡ map f (filter (λ a. test (f a)) l)
unfolding filter
select_map f test [] = refl
select_map f test (x ∷ xs) = go (test (f x)) (select_map f test xs)
  where
    go : (b : Bool) → filter test (map f xs) ≡ map f (filter (λ a. test (f a)) xs)
        → (if b then f x ∷ filter test (map f xs) else filter test (map f xs)) ≡ map f (if b then x ∷ filter (λ a. test (f a)) xs else filter (λ a. test (f a)) xs)
    go true e = ap (λ l. f x ∷ l) e
    go false e = e

left-counts : (key : SectionKey) (spelling : Bytes) (l : List Item)
    → filter (λ e. is_line_or_branch e.item) (left_entries key spelling l) ≡ map (in_section key) (filter is_line_or_branch l)
unfolding left_entries filter is_line_or_branch is_branch is_line
left-counts key spelling [] = refl
left-counts key spelling (i ∷ is) = select_map (in_section key) (λ e. is_line_or_branch e.item) (i ∷ is)

whole-counts : (ranges : List Range) (key : SectionKey) (spelling : Bytes) (l : List Item)
    → filter (λ e. is_held_line_or_branch ranges e.item) (map (in_section key) (section_item spelling ∷ l))
    ≡ map (in_section key) (filter (is_held_line_or_branch ranges) l)
unfolding filter is_held_line_or_branch is_line_or_branch is_branch is_line
whole-counts ranges key spelling l = select_map (in_section key) (λ e. is_held_line_or_branch ranges e.item) l

module _ (ranges : List Range) (kept : List Item → List Item) (some : KeepsSome kept) (held_kept : KeepsHeld ranges kept) where
  blocks_counts : (blocks : List Block) → All Good blocks → All (λ (b : Block). SortedItems b.items) blocks
      → lines_and_branches (concat_map (λ (b : Block). left_entries (b.test, b.path) b.spelling (kept b.items)) blocks) ≡ held_lines_and_branches ranges (blocks_entries blocks)
  unfolding concat_map lines_and_branches held_lines_and_branches filter
  blocks_counts [] g h = refl
  blocks_counts (b ∷ bs) g h =
      select_append counted (left_entries key b.spelling (kept b.items)) rest
      ∙ ap (λ (l : Report). l ++ filter counted rest)
      (left-counts key b.spelling (kept b.items)
      ∙ ap (map (in_section key)) (held_kept b.items h.0 g.0.shaped.in_section_lem)
      ∙ sym (whole-counts ranges key b.spelling b.items))
      ∙ ap (λ (l : Report). filter held (block_entries b) ++ l) (blocks_counts bs g.1 h.1)
      ∙ sym (select_append held (block_entries b) (blocks_entries bs))
    where
      key : SectionKey
      key = (b.test, b.path)

      rest : Report
      rest = concat_map (λ (b : Block). left_entries (b.test, b.path) b.spelling (kept b.items)) bs

      counted : Entry → Bool
      counted e = is_line_or_branch e.item

      held : Entry → Bool
      held e = is_held_line_or_branch ranges e.item

  -- THE LINES AND BRANCHES that are held
  pub cut_counts : (r : Report) → Valid r → lines_and_branches (cut_by kept r) ≡ held_lines_and_branches ranges r
  cut_counts r R =
      let B : InBlocks kept some r = in_blocks kept some r R in
      ap lines_and_branches B.left ∙ blocks_counts B.blocks B.good B.sorted ∙ ap (held_lines_and_branches ranges) (sym B.whole)
