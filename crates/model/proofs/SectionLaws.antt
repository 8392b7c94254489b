-- One printed section that is read: it is kept, with the items that it had. Assumes nothing.
use Prim.Native.Nat.{ℕ, suc, ◌+◌, ◌≤◌, Ordering}
use native.Mathlib.Omega.{arith}
use mathlib.Core.Path.{◌≡◌, refl, sym, ap, ◌∙◌}
use mathlib.Core.Bool.{Bool, true, false, true≢false}
use mathlib.Core.List.{List, [], ◌∷◌, ◌++◌, map, append-nil}
use mathlib.Core.Option.{Option, none, some}
use lib.Dec.{compare_is_eq, leb}
use lib.ListN.{length, length-append, length-map}
use borrow.Author.Tests.{le-leb}
use Rattle.ordmap.specs.Keyed.{Above}
use Rattle.model.specs.Order.{is_less, is_greater}
use Rattle.std.specs.Prelude.{if◌then◌else◌}
use Rattle.model.specs.Lists.{filter, concat_map}
use Rattle.model.specs.Bytes.{Bytes, compare_bytes}
use Rattle.model.specs.Path.{Path, components}
use Rattle.model.specs.Answer.{accepted}
use Rattle.model.specs.Record.{
  Record,
  test_name,
  source_file,
  functions_found,
  functions_hit,
  branches_found,
  branches_hit,
  lines_found,
  lines_hit,
  end_of_record,
}
use Rattle.model.specs.Report.{Item, section_item, function_item, branch_item, line_item, Entry, Report, item_key, section_key, compare_sections, within, in_section}
use Rattle.model.specs.Reading.{State, outside, open_section, entries, spelling_of, replace_section, keep_section, name_section, effect}
use Rattle.model.specs.Printing.{
  is_section,
  is_function,
  is_branch,
  is_line,
  compare_printed,
  functions_of,
  start_record,
  group,
  section_records,
}
use Rattle.model.specs.Valid.{ItemFits}
use Rattle.model.proofs.ListLaws.{All, all_select, all-sort, select_all, select_none, each_append}
use Rattle.model.proofs.KeyOrder.{bytes-order}
use Rattle.model.proofs.SortLaws.{distinct_sorted, find-sort, distinct_sort}
use Rattle.model.proofs.RunLaws.{run, run-append}
use Rattle.model.proofs.Passes
use Rattle.model.proofs.Passes.{
  at,
  SortedItems,
  DistinctItems,
  InSection,
  started,
  inside,
  Pass,
  Ready,
  start_pass,
  group_pass,
  after-starts,
  all_entered,
}

-- ---- a section's items are its functions, its branches and its lines

-- no item past a key passes a test whose items come before it
passed : (test : Item → Bool) (k : List ℕ) → ((i : Item) → test i ≡ true → compare_bytes k (item_key i) ≡ Prim.Native.Nat.Ordering.gt) → (l : List Item)
    → Above item_key compare_bytes k l → filter test l ≡ []
unfolding filter
passed test k h [] a = refl
passed test k h (x ∷ xs) a = go (test x) refl (passed test k h xs a.1)
  where
    go : (b : Bool) → test x ≡ b → filter test xs ≡ [] → (if b then x ∷ filter test xs else filter test xs) ≡ []
    go true e ih = let z : Prim.Native.Nat.Ordering.gt ≡ Prim.Native.Nat.Ordering.lt = sym (h x e) ∙ a.0 in cc
    go false e ih = ih

function-before-branch : (line block branch : ℕ) (taken : Option ℕ) (i : Item) → is_function i ≡ true
    → compare_bytes (item_key (branch_item line block branch taken)) (item_key i) ≡ Prim.Native.Nat.Ordering.gt
unfolding is_function item_key compare_bytes
function-before-branch line block branch taken (section_item spelling) h = refl
function-before-branch line block branch taken (function_item f) h = refl
function-before-branch line block branch taken (branch_item a b c d) h = absurd (true≢false (sym h))
function-before-branch line block branch taken (line_item a b c) h = absurd (true≢false (sym h))

-- what is no line comes before a line
before-line : (line count : ℕ) (checksum : Option Bytes) (test : Item → Bool) → ((n c : ℕ) (s : Option Bytes) → test (line_item n c s) ≡ false)
    → (i : Item) → test i ≡ true → compare_bytes (item_key (line_item line count checksum)) (item_key i) ≡ Prim.Native.Nat.Ordering.gt
unfolding item_key compare_bytes
before-line line count checksum test not-lines (section_item spelling) h = refl
before-line line count checksum test not-lines (function_item f) h = refl
before-line line count checksum test not-lines (branch_item a b c d) h = refl
before-line line count checksum test not-lines (line_item a b c) h = absurd (true≢false (sym h ∙ not-lines a b c))

pub by_kind : (l : List Item) → SortedItems l → All InSection l → filter is_function l ++ (filter is_branch l ++ filter is_line l) ≡ l
unfolding filter is_function is_branch is_line is_section
by_kind [] s h = refl
by_kind (section_item spelling ∷ xs) s h = absurd (true≢false h.0)
by_kind (function_item f ∷ xs) s h = ap (λ (r : List Item). function_item f ∷ r) (by_kind xs s.1 h.1)
by_kind (branch_item line block branch taken ∷ xs) s h =
    let x : Item = branch_item line block branch taken in
    let f : filter is_function xs ≡ [] = passed is_function (item_key x) (function-before-branch line block branch taken) xs s.0 in
    let ih : filter is_function xs ++ (filter is_branch xs ++ filter is_line xs) ≡ xs = by_kind xs s.1 h.1 in
    rw f (ap (λ (r : List Item). x ∷ r) (rw f at ih))
by_kind (line_item line count checksum ∷ xs) s h =
    let x : Item = line_item line count checksum in
    let f : filter is_function xs ≡ [] = passed is_function (item_key x) (before-line line count checksum is_function (λ n c s. refl)) xs s.0 in
    let b : filter is_branch xs ≡ [] = passed is_branch (item_key x) (before-line line count checksum is_branch (λ n c s. refl)) xs s.0 in
    let ih : filter is_function xs ++ (filter is_branch xs ++ filter is_line xs) ≡ xs = by_kind xs s.1 h.1 in
    rw (f, b) (ap (λ (r : List Item). x ∷ r) (rw (f, b) at ih))

-- branches and lines have no FN line
no_starts : (test : Item → Bool) → ((i : Item) → test i ≡ true → start_record i ≡ []) → (l : List Item) → concat_map start_record (filter test l) ≡ []
unfolding concat_map filter
no_starts test h [] = refl
no_starts test h (x ∷ xs) = go (test x) refl (no_starts test h xs)
  where
    go : (b : Bool) → test x ≡ b → concat_map start_record (filter test xs) ≡ [] → concat_map start_record (if b then x ∷ filter test xs else filter test xs) ≡ []
    go true e ih = rw (h x e, ih)
    go false e ih = ih

branch-start : (i : Item) → is_branch i ≡ true → start_record i ≡ []
unfolding is_branch start_record
branch-start (section_item spelling) h = refl
branch-start (function_item f) h = absurd (true≢false (sym h))
branch-start (branch_item line block branch taken) h = refl
branch-start (line_item line count checksum) h = refl

line-start : (i : Item) → is_line i ≡ true → start_record i ≡ []
unfolding is_line start_record
line-start (section_item spelling) h = refl
line-start (function_item f) h = absurd (true≢false (sym h))
line-start (branch_item line block branch taken) h = refl
line-start (line_item line count checksum) h = refl

-- ---- what is kept

-- the entries of a section
abbrev pub entries_of : Bytes → Path → Bytes → List Item → Report
entries_of test path spelling items = map (in_section (test, path)) (section_item spelling ∷ items)

-- a section's key is past that of every entry
abbrev pub Past : Bytes → Path → Report → Type 0
Past test path kept = All (λ e. compare_sections (test, path) (section_key e) ≡ Prim.Native.Nat.Ordering.gt) kept

past-test : (test : Bytes) (path : Path) (f : Ordering → Bool) (b : Bool) → f Prim.Native.Nat.Ordering.gt ≡ b → (kept : Report) → Past test path kept
    → All (λ e. f (compare_sections (test, path) (section_key e)) ≡ b) kept
past-test test path f b q [] h = tt
past-test test path f b q (x ∷ xs) h = (ap f h.0 ∙ q, past-test test path f b q xs h.1)

pub kept-last : (test spelling : Bytes) (item : Item) (items : List Item) (kept : Report) → Past test (components spelling) kept
    → keep_section test spelling (item ∷ items) kept ≡ kept ++ entries_of test (components spelling) spelling (item ∷ items)
unfolding keep_section replace_section spelling_of
kept-last test spelling item items kept h =
    let by : Entry → Ordering = λ e. compare_sections (test, path) (section_key e) in
    let earlier : filter (λ e. is_greater (by e)) kept ≡ kept = select_all (λ e. is_greater (by e)) kept (past-test test path is_greater true refl kept h) in
    let same : filter (λ e. compare_is_eq (by e)) kept ≡ [] = select_none (λ e. compare_is_eq (by e)) kept (past-test test path compare_is_eq false refl kept h) in
    let later : filter (λ e. is_less (by e)) kept ≡ [] = select_none (λ e. is_less (by e)) kept (past-test test path is_less false refl kept h) in
    rw (earlier, same, later) (ap (λ (r : Report). kept ++ r) (append-nil (entries_of test path spelling (item ∷ items))))
  where
    path : Path
    path = components spelling

-- ---- the run of a section's records

module _ (limit : ℕ) (kept : Report) (test spelling : Bytes) (items : List Item) (sorted : SortedItems items) (within_section : All InSection items)
    (fit : All ItemFits items) (room : length kept + suc (length items) ≤ limit) where
  fs : List Item
  fs = functions_of items

  bs : List Item
  bs = filter is_branch items

  ls : List Item
  ls = filter is_line items

  -- all that is printed, in printing order
  printed : List Item
  printed = fs ++ (bs ++ ls)

  distinct_kinds : DistinctItems (filter is_function items ++ (filter is_branch items ++ filter is_line items))
  distinct_kinds = rw (by_kind items sorted within_section) (distinct_sorted item_key compare_bytes bytes-order items sorted)

  printed_distinct : DistinctItems printed
  unfolding printed fs bs ls functions_of
  printed_distinct = distinct_sort item_key compare_bytes bytes-order compare_printed (bs ++ ls) (filter is_function items) distinct_kinds

  printed-same : (k : List ℕ) → at k printed ≡ at k items
  unfolding printed fs bs ls functions_of
  printed-same k =
      find-sort item_key compare_bytes bytes-order compare_printed (bs ++ ls) (filter is_function items) distinct_kinds k
      ∙ ap (at k) (by_kind items sorted within_section)

  starts-printed : concat_map start_record printed ≡ concat_map start_record fs
  unfolding printed bs ls
  starts-printed =
      each_append start_record fs (bs ++ ls)
      ∙ ap (λ r. concat_map start_record fs ++ r) (each_append start_record bs ls)
      ∙ rw (no_starts is_branch branch-start items, no_starts is_line line-start items) (append-nil (concat_map start_record fs))

  all_fs : (P : Item → Type 0) → All P items → All P fs
  unfolding fs functions_of
  all_fs P h = all-sort P compare_printed (filter is_function items) (all_select P is_function items h)

  all_bs : (P : Item → Type 0) → All P items → All P bs
  unfolding bs
  all_bs P h = all_select P is_branch items h

  all_ls : (P : Item → Type 0) → All P items → All P ls
  unfolding ls
  all_ls P h = all_select P is_line items h

  opened : (t : Bytes) → run limit (test_name test ∷ source_file spelling ∷ []) (outside kept t) ≡ accepted (inside kept test spelling [])
  unfolding run effect name_section outside open_section within entries
  opened t =
      let a : leb (length kept + 0) limit ≡ true = le-leb (length kept + 0) limit (omega arith) in
      let b : leb (length kept + 1) limit ≡ true = le-leb (length kept + 1) limit (omega arith) in
      rw a (rw b)

  start : Pass items started [] printed
  start = record { sorted = tt; distinct = printed_distinct; meets = λ k. rw (printed-same k) (go (at k items)) }
    where
      go : (o : Option Item) → Passes.first (Passes.through started o) none ≡ Passes.through started o
      go none = refl
      go (some e) = last (started e)
        where
          last : (o : Option Item) → Passes.first o none ≡ o
          last none = refl
          last (some x) = refl

  abbrev holding : List Item → State
  holding m = inside kept test spelling m

  module _ (rs : List Record) (s : State) (m : List Item) (q : run limit rs s ≡ accepted (holding m)) where
    with_lines : Pass items some m ls → Ready m ls
        → run limit (rs ++ group lines_found lines_hit ls) s ≡ accepted (holding items)
    unfolding effect
    with_lines p r =
        go
        (group_pass limit kept test spelling items sorted room lines_found lines_hit (λ n s. refl) (λ n s. refl) m ls []
        (all_ls InSection within_section) (all_ls ItemFits fit) (rw (append-nil ls) p) (rw (append-nil ls) r))
      where
        go : (n : List Item) × (run limit (group lines_found lines_hit ls) (holding m) ≡ accepted (holding n)) × Pass items some n []
            × Ready n []
            → run limit (rs ++ group lines_found lines_hit ls) s ≡ accepted (holding items)
        go (n, q', p', r') =
            run-append limit rs (group lines_found lines_hit ls) s (holding m) q ∙ q'
            ∙ ap (λ (l : List Item). accepted (holding l)) (all_entered limit kept test spelling items sorted room n p')

  module _ (rs : List Record) (s : State) (m : List Item) (q : run limit rs s ≡ accepted (holding m)) where
    with_branches : Pass items some m (bs ++ ls) → Ready m (bs ++ ls)
        → run limit (rs ++ group branches_found branches_hit bs ++ group lines_found lines_hit ls) s ≡ accepted (holding items)
    unfolding effect
    with_branches p r =
        go
        (group_pass limit kept test spelling items sorted room branches_found branches_hit (λ n s. refl) (λ n s. refl) m bs ls
        (all_bs InSection within_section) (all_bs ItemFits fit) p r)
      where
        go : (n : List Item) × (run limit (group branches_found branches_hit bs) (holding m) ≡ accepted (holding n)) × Pass items some n ls
            × Ready n ls
            → run limit (rs ++ group branches_found branches_hit bs ++ group lines_found lines_hit ls) s ≡ accepted (holding items)
        go (n, q', p', r') =
            with_lines (rs ++ group branches_found branches_hit bs) s n (run-append limit rs (group branches_found branches_hit bs) s (holding m) q ∙ q') p' r'

  -- all lines of the section but the last
  filled : (t : Bytes)
      → run limit
      (test_name test ∷ source_file spelling ∷ [] ++ concat_map start_record fs ++ group functions_found functions_hit fs ++ group branches_found branches_hit bs ++ group lines_found lines_hit ls)
      (outside kept t)
      ≡ accepted (holding items)
  unfolding printed effect
  filled t = starts (start_pass limit kept test spelling items sorted room [] printed start)
    where
      rs : List Record
      rs = test_name test ∷ source_file spelling ∷ [] ++ concat_map start_record fs

      groups : (m : List Item) → run limit rs (outside kept t) ≡ accepted (holding m)
          → (n : List Item) × (run limit (group functions_found functions_hit fs) (holding m) ≡ accepted (holding n))
          × Pass items some n (bs ++ ls) × Ready n (bs ++ ls)
          → run limit (rs ++ group functions_found functions_hit fs ++ group branches_found branches_hit bs ++ group lines_found lines_hit ls) (outside kept t)
          ≡ accepted (holding items)
      groups m q (n, q', p, r) =
          with_branches (rs ++ group functions_found functions_hit fs) (outside kept t) n
          (run-append limit rs (group functions_found functions_hit fs) (outside kept t) (holding m) q ∙ q') p r

      starts : (m : List Item) × (run limit (concat_map start_record printed) (holding []) ≡ accepted (holding m)) × Pass items started m []
          → run limit (rs ++ group functions_found functions_hit fs ++ group branches_found branches_hit bs ++ group lines_found lines_hit ls) (outside kept t)
          ≡ accepted (holding items)
      starts (m, q, p) =
          let (p', r) = after-starts limit kept test spelling items sorted room m printed printed-same printed_distinct p in
          groups m
          (run-append limit (test_name test ∷ source_file spelling ∷ []) (concat_map start_record fs) (outside kept t) (holding []) (opened t) ∙ rw (← starts-printed) q)
          (group_pass limit kept test spelling items sorted room functions_found functions_hit (λ n s. refl) (λ n s. refl) m fs (bs ++ ls)
          (all_fs InSection within_section) (all_fs ItemFits fit) p' r)

  -- the end of the section
  ended : (item : Item) (rest : List Item) → items ≡ item ∷ rest → Past test (components spelling) kept
      → run limit (end_of_record ∷ []) (holding items) ≡ accepted (outside (kept ++ entries_of test (components spelling) spelling items) [])
  unfolding run effect entries within outside
  ended item rest e past =
      let made : Report = kept ++ entries_of test (components spelling) spelling items in
      let k : keep_section test spelling items kept ≡ made = rw e (kept-last test spelling item rest kept past) in
      let n : length made ≡ length kept + suc (length items) =
      length-append kept (entries_of test (components spelling) spelling items) ∙ ap (λ (c : ℕ). length kept + c) (length-map (section_item spelling ∷ items) (in_section (test, components spelling))) in
      let l : leb (length made + 0) limit ≡ true = le-leb (length made + 0) limit (omega (arith, n)) in
      rw k (rw l)

  -- A SECTION READ BACK: its entries follow those kept
  pub section-run : (item : Item) (rest : List Item) → items ≡ item ∷ rest → Past test (components spelling) kept → (t : Bytes)
      → run limit (section_records (record { test = test; spelling = spelling; items = items })) (outside kept t)
      ≡ accepted (outside (kept ++ entries_of test (components spelling) spelling items) [])
  unfolding section_records fs bs ls
  section-run item rest e past t =
      run-append limit
      (test_name test ∷ source_file spelling ∷ [] ++ concat_map start_record fs ++ group functions_found functions_hit fs ++ group branches_found branches_hit bs ++ group lines_found lines_hit ls)
      (end_of_record ∷ []) (outside kept t) (holding items) (filled t)
      ∙ ended item rest e past
