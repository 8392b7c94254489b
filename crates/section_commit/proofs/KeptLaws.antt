-- A section committed: to the delta, or in place of rows of main that have its key. Assumes nothing.
use mathlib.Core.Path.{◌≡◌, refl, sym, ap, ap₂, ◌∙◌}
use mathlib.Core.Logic.{◌≢◌}
use mathlib.Core.Bool.{Bool, true, false}
use mathlib.Core.List.{List, [], ◌∷◌, ◌++◌, map}
use Prim.Native.Nat.{Ordering}
use Prim.Native.Nat.{ℕ, suc, ◌+◌, ◌-◌, ◌≤◌, ◌<◌}
use native.Mathlib.Nat.{add-zero}
use native.Mathlib.Omega.{arith}
use Rattle.table.specs.declared.Row.{Row}
use Rattle.table.specs.Places.{tabulate, Unchanged, PartitionPoint}
use Rattle.table.specs.Store.{row, Store}
use Rattle.table.proofs.PlaceLaws.{by-eq, by-lt}
use Rattle.table.proofs.TabulateLaws.{length-tabulate, tabulate_cong}
use Rattle.ordmap.proofs.Results.{impossible}
use Rattle.model.specs.Lists.{filter}
use Rattle.model.specs.Bytes.{Bytes}
use Rattle.model.specs.Report.{Item, section_item, Entry, Report, SectionKey, section_key, in_section, compare_sections}
use Rattle.model.specs.Reading.{spelling_of, keep_section, replace_section}
use Rattle.model.proofs.KeyOrder.{sections-order}
use Rattle.table_item.specs.Items.{tombstone_tag, item_of, ItemRow}
use Rattle.table_item.specs.SortedItems.{item_from, items_at, SortedItems}
use Rattle.table_tombstone.specs.Live.{is_live, MarkedDeleted}
use Rattle.table_tombstone.proofs.LiveLaws.{tag-live, tag_deleted, live_cong, live-most}
use Rattle.table_section.specs.Sections.{test_of, path_of, entry_of, key_of, NamesInBounds, rows_from, entries_from, is_past, PastRow, IsEqualRange}
use Rattle.table_section.specs.Splice.{HeaderRow, Spliced}
use Rattle.table_section.proofs.RangeLaws.{range-before, range_in, range-behind, range-ends, range_absent}
use Rattle.table_section.proofs.HeaderLaws.{section-item, run_at, HeaderAs, header_as, header-entry, header-tag}
use Rattle.table_section.proofs.ReplaceLaws.{keep_some}
use Rattle.table_section.proofs.SectionLaws.{lower_at, higher_at, parts, parts_none, lower_all, range_all, higher_all}
use Rattle.section_commit.specs.Commit.{merge_reports, live_entries_of, kept_at, with_position, InParts, Committed}
use Rattle.section_commit.proofs.MergeLaws.{second-by-second, first-by-first, first-by-second}
use Rattle.section_commit.proofs.HeldLaws.{partition_as}
use Rattle.section_commit.proofs.CommittedLaws.{
  none-live-entries,
  three,
  lives_low,
  lives_in,
  lives_high,
  live-entries_three,
  low-live-entries,
  in_live-entries,
  high-live-entries,
  marked_foreign,
  marked_deleted,
  marked_later,
  marked-keys,
  marked-parts,
  marked-live-entries,
  delta-report,
  delta-held,
  deleted_room,
  placed_held,
  placed_report,
}

module _ {text ws : List ℕ} {index used main-size delta-size deleted n lo₀ hi₀ : ℕ} {key : Row} (π : InParts text ws index used main-size delta-size deleted)
    (ο : SortedItems text ws index used (main-size + delta-size + 1) n) (z : n ≢ 0) (ν : NamesInBounds text key) (tag : key.tag ≡ 0)
    (ρ₀ : IsEqualRange text (rows_from ws index 0) main-size (key_of text key) lo₀ hi₀) where
  abbrev E : ℕ → Row
  E = rows_from ws index 0

  abbrev F : ℕ → Row
  F = rows_from ws index main-size

  abbrev its : List Item
  its = items_at text ws index (main-size + delta-size + 1) n

  abbrev keeping : Report → Report
  keeping = keep_section (test_of text key) (path_of text key) its

  kept_some : (kept : Report) → keeping kept ≡ replace_section (test_of text key) (path_of text key) its kept
  kept_some kept = keep_some (test_of text key) (path_of text key) its kept (rw length-tabulate z)

  -- the live entries of main, by the key
  main-parts : live_entries_of text E main-size ≡ lives_low text E lo₀ ++ (lives_in text E lo₀ hi₀ ++ lives_high text E main-size lo₀ hi₀)
  main-parts = live-entries_three text E main-size lo₀ hi₀ (range-ends ρ₀) ρ₀.high.most

  -- ---- into the delta, where main has no live entry of the key

  module _ (ws₁ : List ℕ) {lo₁ hi₁ items : ℕ} {header : Row} (ρ₁ : IsEqualRange text F delta-size (key_of text key) lo₁ hi₁) (delta-size-has : lo₀ < hi₀ → lo₁ < hi₁)
      (placed : header ≡ with_position key lo₀ items) (ς : Spliced F (rows_from ws₁ index main-size) delta-size delta-size n lo₁ hi₁ header)
      (below : Unchanged (row ws index) (row ws₁ index) 0 main-size) (σ : Store ws₁ index used) where
    foreign : (i : ℕ) → i < main-size → is_live (E i) ≡ true → compare_sections (key_of text key) (key_of text (E i)) ≢ Ordering.eq
    foreign i l a q =
        by-lt lo₁ hi₁
        (λ h. π.apart i lo₁ l a (omega (arith, ρ₁.high.most))
        (ap (λ (k : SectionKey). compare_sections k (key_of text (E i))) (sym (sections-order.equal (range_in ρ₁ lo₁ (omega arith) h))) ∙ q))
        (λ h. by-lt i lo₀
        (λ p. let x : Ordering.gt ≡ Ordering.eq = sym (range-before ρ₀ i p) ∙ q in impossible cc)
        (λ p. by-lt i hi₀ (λ r. let e : lo₁ < hi₁ = delta-size-has (omega arith) in omega arith)
        (λ r. let x : Ordering.lt ≡ Ordering.eq = sym (range-behind ρ₀ i r l) ∙ q in impossible cc)))

    none_here : lives_in text E lo₀ hi₀ ≡ []
    none_here = none-live-entries text E lo₀ hi₀ (λ k p q a. foreign k (omega (arith, ρ₀.high.most)) a (range_in ρ₀ k p q))

    main-none : live_entries_of text E main-size ≡ lives_low text E lo₀ ++ lives_high text E main-size lo₀ hi₀
    main-none = main-parts ∙ ap (λ (l : Report). lives_low text E lo₀ ++ (l ++ lives_high text E main-size lo₀ hi₀)) none_here

    spliced : Spliced F (rows_from ws₁ index main-size) delta-size delta-size n lo₁ hi₁ (with_position key lo₀ items)
    spliced = rw placed at ς

    named : NamesInBounds text (with_position key lo₀ items)
    named = record { test = ν.test; path = ν.path }

    first_live : lo₁ < hi₁ → (F lo₁).tag ≢ tombstone_tag
    first_live h t = let x : true ≡ false = sym (π.live lo₁ (omega (arith, ρ₁.high.most))) ∙ tag_deleted (F lo₁) t in impossible cc

    header_said : HeaderAs text (with_position key lo₀ items) (spelling_of (path_of text key) (run_at text F lo₁ hi₁)) (rows_from ws₁ index main-size lo₁)
    header_said = header-entry π.delta.rows named tag ρ₁ first_live spliced.header

    pub committed_delta : {r : ℕ} → r ≡ lo₁ + (n + 1) + (delta-size - hi₁) → Committed text ws ws₁ index used (three main-size delta-size deleted) n key (three main-size r deleted)
    committed_delta count = rw count (record {
      report =
          delta-report π ο.inner ο.room named tag foreign ρ₀.low refl ρ₁ spliced below σ header_said
          ∙ ap (λ (l : Report). merge_reports l (lower_at text F lo₁
          ++ (map (in_section (key_of text key)) (section_item (spelling_of (path_of text key) (run_at text F lo₁ hi₁)) ∷ its) ++ higher_at text F delta-size lo₁ hi₁)))
          main-none
          ∙ second-by-second (test_of text key) (path_of text key) its (lives_low text E lo₀) [] (lives_high text E main-size lo₀ hi₀) (lower_at text F lo₁)
          (run_at text F lo₁ hi₁) (higher_at text F delta-size lo₁ hi₁) (low-live-entries ρ₀) tt (high-live-entries ρ₀) (lower_all ρ₁) (range_all ρ₁) (higher_all ρ₁)
          ∙ sym (kept_some (kept_at text ws index main-size delta-size)
          ∙ ap (replace_section (test_of text key) (path_of text key) its) (ap₂ merge_reports main-none (parts ρ₁)));
      held = delta-held π ο.inner ο.room named tag foreign ρ₀.low refl ρ₁ spliced below σ header_said;
    })

  -- ---- the spelling, where main has entries of the key

  module _ {spelled : Row} (ω : HeaderRow (E lo₀) lo₀ hi₀ key spelled) where
    first_in : lo₀ < hi₀ → is_live (E lo₀) ≡ true → (l : Report) × (lives_in text E lo₀ hi₀ ≡ entry_of text (E lo₀) ∷ l)
    unfolding tabulate filter
    first_in h a = (
      map (entry_of text) (filter is_live (tabulate (λ k. E (lo₀ + suc k)) (hi₀ - suc lo₀))),
      ap (live_entries_of text (λ k. E (lo₀ + k))) (let e : hi₀ - lo₀ ≡ suc (hi₀ - suc lo₀) = omega arith in e)
          ∙ (let e : E (lo₀ + 0) ≡ E lo₀ = ap E (add-zero lo₀) in rw (e, a) refl),
    )

    none_in : lo₀ < hi₀ → (E lo₀).tag ≡ tombstone_tag → lives_in text E lo₀ hi₀ ≡ []
    none_in h t = none-live-entries text E lo₀ hi₀ (λ k p q a. let x : true ≡ false = sym (first_alive k p q a) ∙ tag_deleted (E lo₀) t in impossible cc)
      where
        first_alive : (k : ℕ) → lo₀ ≤ k → k < hi₀ → is_live (E k) ≡ true → is_live (E lo₀) ≡ true
        first_alive k p q a = by-eq lo₀ k
            (λ e. ap (λ (j : ℕ). is_live (E j)) e ∙ a)
            (λ e. π.front lo₀ k (omega arith) (omega (arith, ρ₀.high.most))
            (ap₂ compare_sections (sym (sections-order.equal (range_in ρ₀ lo₀ (omega arith) h))) (sym (sections-order.equal (range_in ρ₀ k p q)))
            ∙ sections-order.same (key_of text key)) a)

    pub spelled_as : HeaderAs text key (spelling_of (path_of text key) (lives_in text E lo₀ hi₀)) spelled
    unfolding tabulate filter
    spelled_as = header_as π.main.rows ν tag ρ₀ (lives_in text E lo₀ hi₀) (λ h t. first_in h (tag-live (E lo₀) t)) none_in
        (λ h. ap (live_entries_of text (λ k. E (lo₀ + k))) (let e : hi₀ - lo₀ ≡ 0 = omega arith in e)) ω

    spelled-tag : spelled.tag ≡ 0
    spelled-tag = header-tag ω ∙ tag

    spelled-key : key_of text spelled ≡ key_of text key
    spelled-key = ap section_key spelled_as.is

    spelled-path : section_item (path_of text spelled) ≡ section_item (spelling_of (path_of text key) (lives_in text E lo₀ hi₀))
    spelled-path = sym (section-item text spelled (omega (arith, spelled-tag))) ∙ ap (λ (e : Entry). e.item) spelled_as.is

    -- ---- the rows of main that have the key are marked deleted

    module _ {ws' : List ℕ} {marked place : ℕ} (σ' : Store ws' index used) (β : MarkedDeleted (row ws index) (row ws' index) used lo₀ hi₀ marked)
        (ρ₁ : IsEqualRange text F delta-size (key_of text key) place place) where
      abbrev E' : ℕ → Row
      E' = rows_from ws' index 0

      abbrev F' : ℕ → Row
      F' = rows_from ws' index main-size

      π' : InParts text ws' index used main-size delta-size (deleted + marked)
      π' = marked-parts π ρ₀ σ' β

      -- the rows behind main are unchanged
      behind : (k : ℕ) → k < delta-size → F' k ≡ F k
      behind k l = marked_later π ρ₀ σ' β (main-size + k) (omega arith) (omega (arith, π.delta.room))

      item-row : (k : ℕ) → k < n → row ws' index (main-size + delta-size + 1 + k) ≡ row ws index (main-size + delta-size + 1 + k)
      item-row k l = marked_later π ρ₀ σ' β (main-size + delta-size + 1 + k) (omega arith) (omega (arith, ο.room))

      ι' : (k : ℕ) → k < n → ItemRow text (row ws' index (main-size + delta-size + 1 + k))
      ι' k l = rw (item-row k l) (ο.inner k l)

      same-items : items_at text ws' index (main-size + delta-size + 1) n ≡ its
      same-items = tabulate_cong (item_from text ws' index (main-size + delta-size + 1)) (item_from text ws index (main-size + delta-size + 1)) n
          (λ k l. ap (item_of text) (item-row k l))

      delta-none : entries_from text ws index main-size delta-size ≡ lower_at text F place ++ higher_at text F delta-size place place
      delta-none = parts_none ρ₁ (omega arith)

      -- a cut by the key, among rows of the same keys
      partition_again : (header : Row) (f g : ℕ → Row) {m r : ℕ} (b : Bool) → key_of text header ≡ key_of text key
          → ((k : ℕ) → k < m → key_of text (g k) ≡ key_of text (f k)) → PartitionPoint (PastRow b text f (key_of text key)) m r → PartitionPoint (PastRow b text g (key_of text header)) m r
      partition_again header f g b e keys c = partition_as (λ k l. ap₂ (λ (x y : SectionKey). is_past b (compare_sections x y)) e (keys k l)) c

      before : kept_at text ws index main-size delta-size
          ≡ merge_reports (lives_low text E lo₀ ++ (lives_in text E lo₀ hi₀ ++ lives_high text E main-size lo₀ hi₀))
          (lower_at text F place ++ higher_at text F delta-size place place)
      before = ap₂ merge_reports main-parts delta-none

      abbrev new : Report
      new = map (in_section (key_of text key)) (section_item (spelling_of (path_of text key) (lives_in text E lo₀ hi₀)) ∷ its)

      new_as : (header : Row) → key_of text header ≡ key_of text key
          → map (in_section (key_of text header)) (section_item (spelling_of (path_of text key) (lives_in text E lo₀ hi₀)) ∷ items_at text ws' index (main-size + delta-size + 1) n) ≡ new
      new_as header e = ap₂ (λ (k : SectionKey) (l : List Item). map (in_section k) (section_item (spelling_of (path_of text key) (lives_in text E lo₀ hi₀)) ∷ l)) e same-items

      -- the section is spliced into the delta
      module _ (ws₁ : List ℕ) {items : ℕ} {header : Row} (placed : header ≡ with_position spelled lo₀ items)
          (ς : Spliced F' (rows_from ws₁ index main-size) delta-size delta-size n place place header) (below : Unchanged (row ws' index) (row ws₁ index) 0 main-size)
          (σ : Store ws₁ index used) where
        spliced₁ : Spliced F' (rows_from ws₁ index main-size) delta-size delta-size n place place (with_position spelled lo₀ items)
        spliced₁ = rw placed at ς

        named₁ : NamesInBounds text (with_position spelled lo₀ items)
        named₁ = record { test = spelled_as.whole.named.test; path = spelled_as.whole.named.path }

        run₁ : IsEqualRange text F' delta-size (key_of text (with_position spelled lo₀ items)) place place
        run₁ = record {
          low = partition_again (with_position spelled lo₀ items) F F' false spelled-key (λ k l. ap (key_of text) (behind k l)) ρ₁.low;
          high = partition_again (with_position spelled lo₀ items) F F' true spelled-key (λ k l. ap (key_of text) (behind k l)) ρ₁.high;
        }

        header-there : rows_from ws₁ index main-size place ≡ with_position spelled lo₀ items
        header-there = spliced₁.header.new (omega arith)

        header_said₁ : HeaderAs text (with_position spelled lo₀ items) (spelling_of (path_of text key) (lives_in text E lo₀ hi₀)) (rows_from ws₁ index main-size place)
        header_said₁ = rw header-there (record {
          whole = record { named = named₁; good = omega (arith, spelled-tag) };
          is = ap (in_section (key_of text (with_position spelled lo₀ items))) (section-item text (with_position spelled lo₀ items) (omega (arith, spelled-tag)) ∙ spelled-path);
        })

        foreign₁ : (i : ℕ) → i < main-size → is_live (E' i) ≡ true → compare_sections (key_of text (with_position spelled lo₀ items)) (key_of text (E' i)) ≢ Ordering.eq
        foreign₁ i l a q = marked_foreign π ρ₀ σ' β i l a (sym (ap₂ compare_sections spelled-key (marked-keys π ρ₀ σ' β i l)) ∙ q)

        place₁ : PartitionPoint (PastRow false text E' (key_of text (with_position spelled lo₀ items))) main-size lo₀
        place₁ = partition_again (with_position spelled lo₀ items) E E' false spelled-key (marked-keys π ρ₀ σ' β) ρ₀.low

        lower_same : lower_at text F' place ≡ lower_at text F place
        lower_same = tabulate_cong (λ k. entry_of text (F' k)) (λ k. entry_of text (F k)) place
            (λ k l. ap (entry_of text) (behind k (omega (arith, ρ₁.low.most))))

        higher_same : higher_at text F' delta-size place place ≡ higher_at text F delta-size place place
        higher_same = tabulate_cong (λ k. entry_of text (F' (place + (place - place + k)))) (λ k. entry_of text (F (place + (place - place + k)))) (delta-size - place)
            (λ k l. ap (entry_of text) (behind (place + (place - place + k)) (omega arith)))

        pub committed_moved : {r : ℕ} → r ≡ place + (n + 1) + (delta-size - place)
            → Committed text ws ws₁ index used (three main-size delta-size deleted) n key (three main-size r (deleted + marked))
        committed_moved count = rw count (record {
          report =
              delta-report π' ι' ο.room named₁ spelled-tag foreign₁ place₁ refl run₁ spliced₁ below σ header_said₁
              ∙ ap₂ merge_reports (marked-live-entries π ρ₀ σ' β) (ap₂ ◌++◌ lower_same (ap₂ ◌++◌ (new_as (with_position spelled lo₀ items) spelled-key) higher_same))
              ∙ first-by-second (test_of text key) (path_of text key) its (lives_low text E lo₀) (lives_in text E lo₀ hi₀) (lives_high text E main-size lo₀ hi₀)
              (lower_at text F place) [] (higher_at text F delta-size place place) (low-live-entries ρ₀) (in_live-entries ρ₀) (high-live-entries ρ₀) (lower_all ρ₁) tt (higher_all ρ₁)
              ∙ sym (kept_some (kept_at text ws index main-size delta-size) ∙ ap (replace_section (test_of text key) (path_of text key) its) before);
          held = delta-held π' ι' ο.room named₁ spelled-tag foreign₁ place₁ refl run₁ spliced₁ below σ header_said₁;
        })

      -- the section comes in place of some of them
      module _ (ws₁ : List ℕ) (fits : n + 1 ≤ hi₀ - lo₀) (ς : Spliced E' (rows_from ws₁ index 0) (main-size + delta-size) (main-size + delta-size) n lo₀ (lo₀ + (n + 1)) spelled)
          (σ : Store ws₁ index used) where
        named₂ : NamesInBounds text spelled
        named₂ = spelled_as.whole.named

        run₂ : IsEqualRange text E' main-size (key_of text spelled) lo₀ hi₀
        run₂ = record {
          low = partition_again spelled E E' false spelled-key (marked-keys π ρ₀ σ' β) ρ₀.low;
          high = partition_again spelled E E' true spelled-key (marked-keys π ρ₀ σ' β) ρ₀.high;
        }

        all_deleted : (k : ℕ) → lo₀ ≤ k → k < hi₀ → is_live (E' k) ≡ false
        all_deleted k l h = tag_deleted (E' k) (marked_deleted π ρ₀ σ' β k l h)

        foreign₂ : (j : ℕ) → j < delta-size → compare_sections (key_of text spelled) (key_of text (F' j)) ≢ Ordering.eq
        foreign₂ j l q =
            let e : compare_sections (key_of text key) (key_of text (F j)) ≡ Ordering.eq =
            sym (ap₂ compare_sections spelled-key (ap (key_of text) (behind j l))) ∙ q in
            by-lt j place
            (λ h. let x : Ordering.gt ≡ Ordering.eq = sym (range-before ρ₁ j h) ∙ e in impossible cc)
            (λ h. let x : Ordering.lt ≡ Ordering.eq = sym (range-behind ρ₁ j h l) ∙ e in impossible cc)

        header-here : rows_from ws₁ index 0 lo₀ ≡ spelled
        header-here = ς.header.other (omega arith) (omega (arith, marked_deleted π ρ₀ σ' β lo₀ (let x : lo₀ ≤ lo₀ = omega arith in x) (let x : lo₀ < hi₀ = omega arith in x)))

        header_said₂ : HeaderAs text spelled (spelling_of (path_of text key) (lives_in text E lo₀ hi₀)) (rows_from ws₁ index 0 lo₀)
        header_said₂ = rw header-here (record {
          whole = spelled_as.whole;
          is = ap (in_section (key_of text spelled)) (section-item text spelled (omega (arith, spelled-tag)) ∙ spelled-path);
        })

        pub room : n + 1 ≤ deleted + marked
        room = deleted_room π' ι' named₂ spelled-tag run₂ fits all_deleted foreign₂ ς σ header_said₂

        low_same : lives_low text E' lo₀ ≡ lives_low text E lo₀
        low_same = ap (map (entry_of text)) (live_cong E' E lo₀ (λ k l. β.below (0 + k) (omega arith) (omega arith)))

        high_same : lives_high text E' main-size lo₀ hi₀ ≡ lives_high text E main-size lo₀ hi₀
        high_same = ap (map (entry_of text)) (live_cong (λ k. E' (lo₀ + (hi₀ - lo₀ + k))) (λ k. E (lo₀ + (hi₀ - lo₀ + k))) (main-size - hi₀)
            (λ k l. β.above (0 + (lo₀ + (hi₀ - lo₀ + k))) (omega (arith, range-ends ρ₀)) (omega (arith, range-ends ρ₀, π.main.room))))

        delta-same : entries_from text ws' index main-size delta-size ≡ lower_at text F place ++ higher_at text F delta-size place place
        delta-same = tabulate_cong (λ k. entry_of text (F' k)) (λ k. entry_of text (F k)) delta-size (λ k l. ap (entry_of text) (behind k l)) ∙ delta-none

        pub committed_placed : Committed text ws ws₁ index used (three main-size delta-size deleted) n key (three main-size delta-size (deleted + marked - (n + 1)))
        committed_placed = record {
          report =
              placed_report π' ι' named₂ spelled-tag run₂ fits all_deleted foreign₂ ς σ header_said₂
              ∙ ap₂ merge_reports (ap₂ ◌++◌ low_same (ap₂ ◌++◌ (new_as spelled spelled-key) high_same)) delta-same
              ∙ first-by-first (test_of text key) (path_of text key) its (lives_low text E lo₀) (lives_in text E lo₀ hi₀) (lives_high text E main-size lo₀ hi₀)
              (lower_at text F place) [] (higher_at text F delta-size place place) (low-live-entries ρ₀) (in_live-entries ρ₀) (high-live-entries ρ₀) (lower_all ρ₁) tt (higher_all ρ₁)
              ∙ sym (kept_some (kept_at text ws index main-size delta-size) ∙ ap (replace_section (test_of text key) (path_of text key) its) before);
          held = placed_held π' ι' named₂ spelled-tag run₂ fits all_deleted foreign₂ ς σ header_said₂;
        }

-- ---- what the calls of `commit` ask

module _ {text ws : List ℕ} {index used main-size delta-size deleted lo hi : ℕ} {key : SectionKey} (π : InParts text ws index used main-size delta-size deleted)
    (ρ : IsEqualRange text (rows_from ws index 0) main-size key lo hi) where
  at_zero : (k : ℕ) → rows_from ws index 0 k ≡ row ws index k
  at_zero k = ap (row ws index) (let e : 0 + k ≡ k = omega arith in e)

  -- of the rows of a key, the live ones come first
  pub range_front : (i j : ℕ) → lo ≤ i → i < j → j < hi → is_live (row ws index j) ≡ true → is_live (row ws index i) ≡ true
  range_front i j p q h a =
      ap is_live (sym (at_zero i))
      ∙ π.front i j q (omega (arith, ρ.high.most))
      (ap₂ compare_sections (sym (sections-order.equal (range_in ρ i p (omega arith)))) (sym (sections-order.equal (range_in ρ j (omega arith) h)))
      ∙ sections-order.same key)
      (ap is_live (at_zero j) ∙ a)

  -- where one is live, the delta does not have the key
  pub none-delta_has : lo < hi → is_live (row ws index lo) ≡ true → (place : ℕ) × IsEqualRange text (rows_from ws index main-size) delta-size key place place
  none-delta_has l a = range_absent key π.delta.rows (λ j h q. π.apart lo j (omega (arith, ρ.high.most)) (ap is_live (at_zero lo) ∙ a) h
      (ap₂ compare_sections (sym (sections-order.equal q)) (sym (sections-order.equal (range_in ρ lo (omega arith) l))) ∙ sections-order.same key))

-- the end of a key's equal range, and how many of its rows are marked, as far as `omega` needs it
pub record Bounds (main-size delta-size deleted used n lo hi marked : ℕ) : Type 0 where
  pub ends : lo ≤ hi
  pub most : hi ≤ main-size
  pub rows : main-size + delta-size + 1 + n ≤ used
  pub died : deleted ≤ main-size
  pub lived : marked ≤ hi - lo

pub bounds : {text ws : List ℕ} {g : ℕ → Row} {index used main-size delta-size deleted n lo hi marked : ℕ} {key : SectionKey} → InParts text ws index used main-size delta-size deleted
    → IsEqualRange text (rows_from ws index 0) main-size key lo hi → main-size + delta-size + 1 + n ≤ used
    → MarkedDeleted (row ws index) g used lo hi marked → Bounds main-size delta-size deleted used n lo hi marked
bounds {ws = ws} {index = index} {lo = lo} {hi = hi} π ρ room β = record {
  ends = range-ends ρ;
  most = ρ.high.most;
  rows = room;
  died = omega (arith, π.count);
  lived = omega (arith, β.count, live-most (λ k. row ws index (lo + k)) (hi - lo));
}

-- an empty range, given by its start
pub range_at_lem : {text : Bytes} {f : ℕ → Row} {n lo hi : ℕ} {key : SectionKey} → IsEqualRange text f n key lo hi → hi ≤ lo → IsEqualRange text f n key lo lo
range_at_lem {lo = lo} {hi = hi} ρ h = let e : hi ≡ lo = omega (arith, range-ends ρ) in rw e at ρ
