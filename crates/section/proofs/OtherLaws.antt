-- Lines that name, open and end a section. Assumes nothing.
use mathlib.Core.Path.{◌≡◌, refl, sym, ap, ap₂, ◌∙◌}
use mathlib.Core.Logic.{◌≢◌}
use mathlib.Core.Bool.{Bool, true, false}
use mathlib.Core.List.{List, [], ◌∷◌, ◌++◌, map}
use Prim.Native.Nat.{ℕ, suc, ◌+◌, ◌-◌, ◌≤◌, ◌<◌, Ordering}
use native.Mathlib.Omega.{arith}
use lib.Dec.{compare_is_eq}
use lib.ListN.{length, length-append, length-map}
use Rattle.table.specs.declared.Row.{Row}
use Rattle.table.specs.Places.{tabulate, Unchanged}
use Rattle.table.specs.Store.{row}
use Rattle.table.proofs.TabulateLaws.{length-tabulate}
use Rattle.ordmap.specs.Result.{accepted}
use Rattle.model.specs.declared.Fault.{Fault}
use Rattle.model.specs.declared.Part.{Part}
use Rattle.model.specs.declared.Fault.TheVariants.{UnexpectedRecord, TooManyEntries, SecondSourceFile}
use Rattle.model.specs.Lists.{filter}
use Rattle.model.specs.Order.{is_less, is_greater}
use Rattle.std.specs.Prelude.{if◌then◌else◌}
use Rattle.model.specs.Bytes.{Bytes}
use Rattle.model.specs.Path.{components}
use Rattle.model.specs.Answer.{Answer}
use Rattle.model.specs.Report.{Item, section_item, Report, SectionKey, section_key, in_section, compare_sections, within}
use Rattle.model.specs.Record.{test_name, source_file, end_of_record}
use Rattle.model.specs.Reading.{State as ModelState, outside, open_section, entries, path_or, spelling_of, replace_section, keep_section, ignored, name_section, effect}
use Rattle.table_item.specs.Items.{part_in, PartInside}
use Rattle.table_item.specs.SortedItems.{items_at, SortedItems}
use Rattle.section_upsert.specs.MainDelta.{merge_items}
use Rattle.section_upsert.proofs.UpsertLaws.{within-fits, within-past}
use Rattle.section_tail.specs.Tail.{include_all, rows_of, AllFlushed}
use Rattle.section_tail.proofs.ItemLaws.{held-length}
use Rattle.section.specs.declared.State.{State}
use Rattle.std.specs.Prelude.{Result, Ok, Err}
use Rattle.section_commit.specs.declared.KeptSizes.{KeptSizes}
use Rattle.table_section.specs.Sections.{test_of, path_of, entry_at}
use Rattle.section_commit.specs.Commit.{kept_at, InParts, KeptSections, report_of, MergedAndCompacted as AllLate, Committed}
use Rattle.section_commit.proofs.HeldLaws.{kept-length, main-sections, main-entries}
use Rattle.section.specs.Reading.{slack, capacity, SectionRoom, RowReserved, with_open, with_path, with_closed, no_part, main_of, kept_sizes_of, state_of, Opened, RowsWithinLimit, HoldsState, counted, StepOf, StepBy, AllInMain}
use Rattle.section.proofs.StateLaws.{rows_fit, kept-rows, kept_size, same_kept, same-sections, no_items, by-inside, more-valid, more_state, inside-valid, outside-valid, path_or_lem, step_as}
use Rattle.section.proofs.ItemLaws.{count_open, header-free}

-- ---- a step to the outside

next-outside : {text ws : List ℕ} {index limit : ℕ} (kept delta tombstones used : ℕ) (test : Part) (report : Report)
    → kept_at text ws index (kept - delta) delta ≡ report
    → SectionRoom ws index limit → used ≤ capacity limit → tombstones ≤ slack limit → delta ≤ kept → length report ≤ limit
    → InParts text ws index used (kept - delta) delta tombstones → PartInside text test
    → StepOf text ws index limit (counted limit (accepted (outside report (part_in text test)))) (Ok (with_closed kept delta tombstones used test))
unfolding outside entries include_all merge_items tabulate
next-outside {text} {ws} {index} {limit} kept delta tombstones used test report e ρ m d l f σ i =
    let same : length report + tombstones ≡ kept - delta + delta = ap (λ (x : Report). length x + tombstones) (sym e) ∙ kept-length σ in
    record {
      is =
          ap (λ (x : Report). accepted (outside x (part_in text test))) e
          ∙ sym (within-fits limit (length report + 0) (outside report (part_in text test)) (omega arith));
      valid = outside-valid ρ m d l (omega arith) σ i;
    }

-- the kept entries are within the limit
pub kept-few : {text ws : List ℕ} {index limit : ℕ} {st : State} → HoldsState text ws index limit st → length (state_of text ws index st).kept ≤ limit
kept-few {text} {ws} {index} {limit} {st} ζ = go st.inside ζ.fits
  where
    go : (b : Bool) → RowsWithinLimit b limit st → length (state_of text ws index st).kept ≤ limit
    go true f = omega (arith, kept_size ζ)
    go false f = omega (arith, kept_size ζ)

-- ---- TN

module _ {text ws : List ℕ} {index limit : ℕ} (st : State) where
  pub test-inside : (name : Bytes) → st.inside ≡ true
      → StepOf text ws index limit (counted limit (effect (test_name name) (state_of text ws index st))) (Err UnexpectedRecord)
  unfolding effect
  test-inside name e = record { is = rw e; valid = tt }

  pub test-outside : {name : Part} → HoldsState text ws index limit st → PartInside text name → st.inside ≡ false
      → StepOf text ws index limit (counted limit (effect (test_name (part_in text name)) (state_of text ws index st)))
      (Ok (with_closed st.kept st.delta st.tombstones st.used name))
  unfolding effect
  test-outside {name} ζ i e =
      rw e (next-outside st.kept st.delta st.tombstones st.used name _ refl ζ.space.room ζ.space.most ζ.space.tombstones ζ.space.delta
      (kept-few ζ) ζ.sections i)

-- ---- SF

module _ {text ws : List ℕ} {index limit : ℕ} (st : State) where
  pub second_path : (path : Bytes) → st.has_path ≡ true → StepBy (effect (source_file path)) text ws ws index limit st (Err SecondSourceFile)
  unfolding effect name_section
  second_path path e = record { is = rw e; valid = tt }

  -- the first SF gives the path and opens the section
  pub first-path : {ws' : List ℕ} {path : Part} {named : State} {r : Result State Fault} → HoldsState text ws index limit st → st.has_path ≡ false
      → named ≡ with_path st path → StepBy ignored text ws ws' index limit named r → StepBy (effect (source_file (part_in text path))) text ws ws' index limit st r
  unfolding effect name_section ignored open_section
  first-path ζ e f σ = step_as (rw (f, e)) σ

-- ---- found and hit lines

module _ {text ws : List ℕ} {index limit : ℕ} {st : State} (ζ : HoldsState text ws index limit st) where
  abbrev S : ModelState
  S = state_of text ws index st

  abbrev opened : ModelState
  opened = open_section S S.path S.items

  abbrev answer : Answer ModelState
  answer = counted limit (ignored S)

  is-opened : answer ≡ within limit (length S.kept + suc (length S.items)) opened
  unfolding ignored
  is-opened = ap (λ (n : ℕ). within limit n opened) (count_open S S.path S.items)

  number : length S.items ≤ rows_of st.sizes
  number = by-inside ζ (λ o. held-length (ζ.open_items o)) (λ z e. omega (arith, ap length e))

  -- no row may be had for the section itself
  pub open_full : limit + st.tombstones ≤ st.kept → StepOf text ws index limit answer (Err TooManyEntries)
  open_full h = record {
    is = sym (is-opened ∙ within-past limit (length S.kept + suc (length S.items)) opened (omega (arith, kept_size ζ)));
    valid = tt;
  }

  pub open_next : {ws' : List ℕ} {header : ℕ} → RowReserved ws ws' index st.used limit st.kept header → st.kept < limit + st.tombstones → length ws' ≡ length ws
      → StepOf text ws' index limit answer (Ok (with_open st header st.sizes))
  unfolding open_section
  open_next ρ h len =
      record {
        is =
            ap (λ (s : ModelState). accepted (open_section s s.path s.items)) (more_state ζ ρ)
            ∙ sym (is-opened ∙ within-fits limit (length S.kept + suc (length S.items)) opened
            (omega (arith, number, rows_fit ζ h, kept_size ζ)));
        valid = inside-valid (more-valid ζ ρ len) (header-free ζ.space ρ h) (rows_fit ζ h);
      }

-- ---- end_of_record

-- and all its rows but the tombstones are within the limit
items_fit : {text ws : List ℕ} {index limit : ℕ} {st : State} → HoldsState text ws index limit st → rows_of st.sizes ≢ 0
    → st.kept + 1 + length (state_of text ws index st).items ≤ limit + st.tombstones
items_fit {text} {ws} {index} {limit} {st} ζ h = go st.inside ζ.opened ζ.fits
  where
    go : (b : Bool) → Opened b st → RowsWithinLimit b limit st → st.kept + 1 + length (state_of text ws index st).items ≤ limit + st.tombstones
    go true o f = omega (arith, held-length (ζ.open_items o))
    go false o f = absurd (h o)

closed_as : {text ws ws' : List ℕ} {index used n : ℕ} {p q r : KeptSizes} {key : Row} → p ≡ q → Committed text ws ws' index used p n key r
    → Committed text ws ws' index used q n key r
closed_as e κ = rw e at κ

-- a kept section adds itself and its items at most
module _ (key : SectionKey) where
  others-most : (l : Report) → length (filter (λ e. is_greater (compare_sections key (section_key e))) l)
      + length (filter (λ e. is_less (compare_sections key (section_key e))) l) ≤ length l
  unfolding filter
  others-most [] = omega arith
  others-most (e ∷ l) = go (compare_sections key (section_key e)) (others-most l)
    where
      low : Report
      low = filter (λ e. is_greater (compare_sections key (section_key e))) l

      high : Report
      high = filter (λ e. is_less (compare_sections key (section_key e))) l

      go : (o : Ordering) → length low + length high ≤ length l
          → length (if is_greater o then e ∷ low else low) + length (if is_less o then e ∷ high else high) ≤ suc (length l)
      go Ordering.lt h = omega arith
      go Ordering.eq h = omega arith
      go Ordering.gt h = omega arith

kept-most : (test path : Bytes) (items : List Item) (kept : Report) → length (keep_section test path items kept) ≤ length kept + suc (length items)
unfolding keep_section replace_section
kept-most test path [] kept = omega arith
kept-most test path (i ∷ items) kept =
    let key : SectionKey = (test, components path) in
    let same : Report = filter (λ e. compare_is_eq (compare_sections key (section_key e))) kept in
    let low : Report = filter (λ e. is_greater (compare_sections key (section_key e))) kept in
    let high : Report = filter (λ e. is_less (compare_sections key (section_key e))) kept in
    let header : List Item = section_item (spelling_of path same) ∷ i ∷ items in
    omega (
      arith,
      length-append low (map (in_section key) header ++ high),
      length-append (map (in_section key) header) high,
      length-map header (in_section key),
      others-most key kept,
    )

module _ {text ws : List ℕ} {index limit : ℕ} {st : State} (ζ : HoldsState text ws index limit st) where
  pub end_empty : rows_of st.sizes ≡ 0
      → StepOf text ws index limit (counted limit (effect end_of_record (state_of text ws index st)))
      (Ok (with_closed st.kept st.delta st.tombstones st.used no_part))
  unfolding effect keep_section
  end_empty z =
      rw (no_items text ws index (st.kept + 1) st.sizes z)
      (next-outside st.kept st.delta st.tombstones st.used no_part _ refl ζ.space.room ζ.space.most ζ.space.tombstones ζ.space.delta
      (kept-few ζ) ζ.sections (omega arith))

  -- all n items are in main, and then the section is committed
  module _ {ws₁ : List ℕ} {n : ℕ} (ς : AllFlushed text ws ws₁ index st.used (st.kept + 1) st.sizes n) where
    older : Unchanged (row ws index) (row ws₁ index) 0 st.kept
    older k p q = ς.others k p (omega arith)

    pub all-sections : KeptSections text ws₁ index st.used (kept_sizes_of st)
    all-sections = same-sections ws₁ ζ older st.used ς.still.store ζ.space.kept

    first : main_of st + st.delta + 1 ≡ st.kept + 1
    first = omega (arith, kept-rows ζ)

    pub main_open : {q : KeptSizes} → q ≡ kept_sizes_of st → SortedItems text ws₁ index st.used (q.main + q.delta + 1) n
    main_open e = rw e (rw first ς.still)

    abbrev S₀ : ModelState
    S₀ = state_of text ws index st

    -- the model's kept sections with this one
    abbrev after : Report
    after = keep_section S₀.test (path_or S₀.path) S₀.items S₀.kept

    after-few : rows_of st.sizes ≢ 0 → length after ≤ limit
    after-few h =
        omega (
          arith,
          kept-most S₀.test (path_or S₀.path) S₀.items S₀.kept,
          kept_size ζ,
          items_fit ζ h,
        )

    pub end_kept : {ws₂ : List ℕ} {q : KeptSizes} {most : ℕ} (key : Row) (r : KeptSizes) → rows_of st.sizes ≢ 0 → test_of text key ≡ part_in text st.test
        → path_of text key ≡ part_in text st.path → length ws₂ ≡ length ws → q ≡ kept_sizes_of st → most ≡ slack limit → r.tombstones ≤ most
        → Committed text ws₁ ws₂ index st.used q n key r
        → StepOf text ws₂ index limit (counted limit (effect end_of_record (state_of text ws index st)))
        (Ok (with_closed (r.main + r.delta) r.delta r.tombstones st.used no_part))
    unfolding effect
    end_kept {ws₂} key r h t p len e m d κ = go (closed_as e κ)
      where
        some : r.main + r.delta - r.delta ≡ r.main
        some = omega arith

        go : Committed text ws₁ ws₂ index st.used (kept_sizes_of st) n key r
            → StepOf text ws₂ index limit (counted limit (accepted (outside after [])))
            (Ok (with_closed (r.main + r.delta) r.delta r.tombstones st.used no_part))
        go κ =
            next-outside (r.main + r.delta) r.delta r.tombstones st.used no_part after
            (ap (λ (m : ℕ). kept_at text ws₂ index m r.delta) some
            ∙ κ.report
            ∙ ap₂ (λ (a b : Bytes). keep_section a b (items_at text ws₁ index (main_of st + st.delta + 1) n)
            (report_of text ws₁ index (kept_sizes_of st))) t (p ∙ path_or_lem text st.has_path st.path ζ.path)
            ∙ ap₂ (λ (x : List Item) (y : Report). keep_section (part_in text st.test) (path_or S₀.path) x y)
            (ap (λ (k : ℕ). items_at text ws₁ index k n) first ∙ ς.items) (same_kept ws₁ ζ older))
            (record { rows = ζ.space.room.rows; words = omega (arith, ζ.space.room.words) }) ζ.space.most (omega arith) (omega arith) (after-few h)
            (rw some κ.held) (omega arith)

-- ---- the end of the text

pub delta-main : {text ws ws' : List ℕ} {index n : ℕ} {st : State} {q : KeptSizes} → q ≡ kept_sizes_of st
    → AllLate text ws ws' index st.used q n → AllInMain text ws ws' index st n
delta-main {text} {ws} {ws'} {index} {n} e σ = record {
  entries = main-entries text ws' index n ∙ σ.report ∙ ap (report_of text ws index) e;
  sections = main-sections σ.held.main;
}

-- they are within the limit
pub main-few : {text ws ws' : List ℕ} {index limit n : ℕ} {st : State} → HoldsState text ws index limit st → AllInMain text ws ws' index st n → n ≤ limit
main-few {text} {ws} {ws'} {index} {limit} {n} ζ σ = omega (arith, kept-few ζ, ap length σ.entries, length-tabulate (entry_at text ws' index) n)
