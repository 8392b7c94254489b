-- The open section is committed to main or delta, as the model keeps it. Assumes nothing.
use mathlib.Core.Path.{◌≡◌, refl, sym, ap, ap₂, ◌∙◌}
use mathlib.Core.Logic.{◌≢◌}
use mathlib.Core.Bool.{Bool, true, false}
use mathlib.Core.List.{List, [], ◌∷◌, ◌++◌, map, map-append}
use Prim.Native.Nat.{Ordering}
use Prim.Native.Nat.{ℕ, suc, ◌+◌, ◌-◌, ◌≤◌, ◌<◌}
use native.Mathlib.Omega.{arith}
use lib.ListN.{length, length-append}
use Rattle.table.specs.declared.Row.{Row}
use Rattle.table.specs.Places.{tabulate, Unchanged, PartitionPoint}
use Rattle.table.specs.Store.{row, Store}
use Rattle.table.proofs.PlaceLaws.{by-eq, by-lt}
use Rattle.table.proofs.TabulateLaws.{length-tabulate, tabulate_cong, map-tabulate}
use Rattle.ordmap.proofs.Results.{impossible}
use Rattle.model.specs.Bytes.{Bytes}
use Rattle.model.specs.Report.{Item, section_item, Report, SectionKey, in_section, compare_sections}
use Rattle.model.specs.Reading.{keep_section}
use Rattle.model.proofs.KeyOrder.{sections-order}
use Rattle.table_item.specs.Items.{tombstone_tag, item_of, ItemRow}
use Rattle.table_item.specs.SortedItems.{item_from, items_at}
use Rattle.table_tombstone.specs.Live.{is_live, live_rows, deleted_row, MarkedDeleted}
use Rattle.table_tombstone.proofs.LiveLaws.{tag-live, tag_deleted, live_cong, live-split, live_three, live_all, live-none, live-most}
use Rattle.table_section.specs.Sections.{test_of, path_of, entry_of, key_of, NamesInBounds, RowInBounds, rows_from, entries_from, Ordered, is_past, PastRow, IsEqualRange}
use Rattle.table_section.specs.Splice.{with_section, Spliced}
use Rattle.table_section.proofs.RangeLaws.{range-before, range_in, range-behind, range-ends}
use Rattle.table_section.proofs.HeaderLaws.{HeaderAs, header-tag}
use Rattle.table_section.proofs.ReplaceLaws.{Compared}
use Rattle.table_section.proofs.SectionLaws.{lower_at, higher_at, closed_section, closed_parts, closed_ordered, closed_same, closed_keys, closed_each, closed_places}
use Rattle.section_commit.specs.declared.KeptSizes.{KeptSizes}
use Rattle.section_commit.specs.Commit.{SameNameBytes, merge_reports, live_entries_of, kept_at, InParts, KeptSections, SameReport, Committed}
use Rattle.section_commit.proofs.HeldLaws.{live-entries-each, live-entries_cong, same_from, partition_as, cached_as}

abbrev pub three : ℕ → ℕ → ℕ → KeptSizes
three main-size delta-size deleted = record { main = main-size; delta = delta-size; tombstones = deleted }

-- a section with nothing in it is dropped
pub committed_empty : {text ws : List ℕ} {index used : ℕ} {p : KeptSizes} {n : ℕ} (key : Row) → KeptSections text ws index used p → n ≡ 0
    → Committed text ws ws index used p n key p
unfolding keep_section tabulate
committed_empty {text} {ws} {index} {used} {p} {n} key π z = record {
  report = sym (ap (λ (m : ℕ). keep_section (test_of text key) (path_of text key) (items_at text ws index (p.main + p.delta + 1) m)
      (kept_at text ws index p.main p.delta)) z);
  held = π;
}

-- the report is kept in other parts
pub committed_as : {text ws ws₁ ws₂ : List ℕ} {index used n : ℕ} {p q r : KeptSizes} {key : Row} → Committed text ws ws₁ index used p n key q
    → SameReport text ws₁ ws₂ index used q r → Committed text ws ws₂ index used p n key r
committed_as κ σ = record { report = σ.report ∙ κ.report; held = σ.held }

-- the section by other places of its names
pub committed_named : {text ws ws' : List ℕ} {index used n : ℕ} {p r : KeptSizes} {key known : Row} → SameNameBytes text key known
    → Committed text ws ws' index used p n known r → Committed text ws ws' index used p n key r
committed_named {text} {ws} {index = index} {n = n} {p = p} σ κ = record {
  report =
      κ.report
      ∙ ap₂ (λ (t q : Bytes). keep_section t q (items_at text ws index (p.main + p.delta + 1) n) (kept_at text ws index p.main p.delta)) σ.test
      σ.path;
  held = κ.held;
}

-- ---- the items behind the m entries from place at on

module _ (text ws : List ℕ) (index : ℕ) (first at m : ℕ) (e : first ≡ at + m + 1) where
  there : (k : ℕ) → rows_from ws index at (m + 1 + k) ≡ row ws index (first + k)
  there k = ap (row ws index) (let z : at + (m + 1 + k) ≡ first + k = omega arith in z)

  pub inner-from : {n : ℕ} → ((k : ℕ) → k < n → ItemRow text (row ws index (first + k))) → (k : ℕ) → k < n
      → ItemRow text (rows_from ws index at (m + 1 + k))
  inner-from ι k l = rw (there k) (ι k l)

  pub items-from : (n : ℕ) → tabulate (λ k. item_of text (rows_from ws index at (m + 1 + k))) n ≡ items_at text ws index first n
  items-from n = tabulate_cong (λ k. item_of text (rows_from ws index at (m + 1 + k))) (item_from text ws index first) n
      (λ k l. ap (item_of text) (there k))

-- ---- the live rows as three parts, by a key

module _ (text : Bytes) (f : ℕ → Row) where
  abbrev pub lives_low : ℕ → Report
  lives_low lo = live_entries_of text f lo

  abbrev pub lives_in : ℕ → ℕ → Report
  lives_in lo hi = live_entries_of text (λ k. f (lo + k)) (hi - lo)

  abbrev pub lives_high : ℕ → ℕ → ℕ → Report
  lives_high m lo hi = live_entries_of text (λ k. f (lo + (hi - lo + k))) (m - hi)

  pub live-entries_three : (m lo hi : ℕ) → lo ≤ hi → hi ≤ m → live_entries_of text f m ≡ lives_low lo ++ (lives_in lo hi ++ lives_high m lo hi)
  live-entries_three m lo hi a b =
      ap (live_entries_of text f) (let e : m ≡ lo + (hi - lo + (m - hi)) = omega arith in e)
      ∙ ap (map (entry_of text)) (live_three f lo (hi - lo) (m - hi))
      ∙ map-append (entry_of text) (live_rows f lo) (live_rows (λ k. f (lo + k)) (hi - lo) ++ live_rows (λ k. f (lo + (hi - lo + k))) (m - hi))
      ∙ ap (λ (l : Report). lives_low lo ++ l)
      (map-append (entry_of text) (live_rows (λ k. f (lo + k)) (hi - lo)) (live_rows (λ k. f (lo + (hi - lo + k))) (m - hi)))

-- none of them is live
pub none-live-entries : (text : Bytes) (f : ℕ → Row) (lo hi : ℕ) → ((k : ℕ) → lo ≤ k → k < hi → is_live (f k) ≡ true → ⊥) → lives_in text f lo hi ≡ []
none-live-entries text f lo hi deleted =
    ap (map (entry_of text)) (live-none (λ k. f (lo + k)) (hi - lo) (λ k l. go (is_live (f (lo + k))) (deleted (lo + k) (omega arith) (omega arith))))
  where
    go : (b : Bool) → (b ≡ true → ⊥) → b ≡ false
    go true h = absurd (h refl)
    go false h = refl

-- how many of three parts are live
lived_three : (f : ℕ → Row) {m : ℕ} (a b c : ℕ) → m ≡ a + (b + c)
    → length (live_rows f m) ≡ length (live_rows f a) + (length (live_rows (λ k. f (a + k)) b) + length (live_rows (λ k. f (a + (b + k))) c))
lived_three f a b c e =
    ap (λ (k : ℕ). length (live_rows f k)) e
    ∙ ap length (live_three f a b c)
    ∙ length-append (live_rows f a) (live_rows (λ k. f (a + k)) b ++ live_rows (λ k. f (a + (b + k))) c)
    ∙ ap (λ (k : ℕ). length (live_rows f a) + k) (length-append (live_rows (λ k. f (a + k)) b) (live_rows (λ k. f (a + (b + k))) c))

module _ {text : Bytes} {f : ℕ → Row} {m lo hi : ℕ} {key : SectionKey} (ρ : IsEqualRange text f m key lo hi) where
  pub low-live-entries : Compared key Ordering.gt (lives_low text f lo)
  low-live-entries = live-entries-each text _ f lo (λ k l a. range-before ρ k l)

  pub in_live-entries : Compared key Ordering.eq (lives_in text f lo hi)
  in_live-entries = live-entries-each text _ (λ k. f (lo + k)) (hi - lo) (λ k l a. range_in ρ (lo + k) (omega arith) (omega arith))

  pub high-live-entries : Compared key Ordering.lt (lives_high text f m lo hi)
  high-live-entries = live-entries-each text _ (λ k. f (lo + (hi - lo + k))) (m - hi)
      (λ k l a. range-behind ρ (lo + (hi - lo + k)) (omega (arith, range-ends ρ)) (omega (arith, range-ends ρ)))

-- ---- the rows of a section are live

pub item-live : {text : Bytes} (r key : Row) → ItemRow text r → is_live (with_section r key) ≡ true
item-live r key i = tag-live (with_section r key) (let h : r.tag ≢ tombstone_tag = omega (arith, i.inner) in h)

pub header-live : (r : Row) → r.tag ≡ 0 → is_live r ≡ true
header-live r e = tag-live r (omega arith)

deleted_good : {text : Bytes} (r : Row) → RowInBounds text r → RowInBounds text (deleted_row r)
deleted_good r w = record { named = record { test = w.named.test; path = w.named.path }; good = omega arith }

-- ---- rows of main that are marked deleted

module _ {text ws ws' : List ℕ} {index used main-size delta-size deleted lo hi marked : ℕ} {key : SectionKey} (π : InParts text ws index used main-size delta-size deleted)
    (ρ : IsEqualRange text (rows_from ws index 0) main-size key lo hi) (σ : Store ws' index used)
    (β : MarkedDeleted (row ws index) (row ws' index) used lo hi marked) where
  abbrev E : ℕ → Row
  E = rows_from ws index 0

  abbrev E' : ℕ → Row
  E' = rows_from ws' index 0

  top : hi ≤ main-size
  top = ρ.high.most

  ends : lo ≤ hi
  ends = range-ends ρ

  -- what a position of main holds
  data At (k : ℕ) : Type 0 where
    out : E' k ≡ E k → compare_sections key (key_of text (E k)) ≢ Ordering.eq → At k
    gone : lo ≤ k → k < hi → E' k ≡ deleted_row (E k) → At k

  at : (k : ℕ) → k < main-size → At k
  at k l =
      by-lt k lo
      (λ h. out (β.below (0 + k) (omega arith) (omega arith)) (λ e. let z : Ordering.gt ≡ Ordering.eq = sym (range-before ρ k h) ∙ e in impossible cc))
      (λ h. by-lt k hi
      (λ q. gone h q (β.there (0 + k) (omega arith) (omega arith)))
      (λ q. out (β.above (0 + k) (omega arith) (omega (arith, π.main.room)))
      (λ e. let z : Ordering.lt ≡ Ordering.eq = sym (range-behind ρ k q l) ∙ e in impossible cc)))

  gone_deleted : (k : ℕ) → E' k ≡ deleted_row (E k) → is_live (E' k) ≡ true → ⊥
  gone_deleted k e a = let z : true ≡ false = sym a ∙ ap is_live e ∙ tag_deleted (deleted_row (E k)) refl in impossible cc

  -- no live row has the key
  pub marked_foreign : (k : ℕ) → k < main-size → is_live (E' k) ≡ true → compare_sections key (key_of text (E k)) ≢ Ordering.eq
  marked_foreign k l a = go (at k l)
    where
      go : At k → compare_sections key (key_of text (E k)) ≢ Ordering.eq
      go (out e h) = h
      go (gone p q e) = absurd (gone_deleted k e a)

  pub marked_deleted : (k : ℕ) → lo ≤ k → k < hi → (E' k).tag ≡ tombstone_tag
  marked_deleted k l h = ap (λ (r : Row). r.tag) (β.there (0 + k) (omega arith) (omega arith))

  pub marked-keys : (k : ℕ) → k < main-size → key_of text (E' k) ≡ key_of text (E k)
  marked-keys k l = go (at k l)
    where
      go : At k → key_of text (E' k) ≡ key_of text (E k)
      go (out e h) = ap (key_of text) e
      go (gone p q e) = ap (key_of text) e

  marked-whole : (k : ℕ) → k < main-size → RowInBounds text (E' k)
  marked-whole k l = go (at k l)
    where
      go : At k → RowInBounds text (E' k)
      go (out e h) = rw e (π.main.rows.whole k l)
      go (gone p q e) = rw e (deleted_good (E k) (π.main.rows.whole k l))

  marked-front : (i j : ℕ) → i < j → j < main-size → compare_sections (key_of text (E' i)) (key_of text (E' j)) ≡ Ordering.eq → is_live (E' j) ≡ true
      → is_live (E' i) ≡ true
  marked-front i j l h q a = go (at i (omega arith)) (at j h)
    where
      same : compare_sections (key_of text (E i)) (key_of text (E j)) ≡ Ordering.eq
      same = sym (ap₂ compare_sections (marked-keys i (omega arith)) (marked-keys j h)) ∙ q

      go : At i → At j → is_live (E' i) ≡ true
      go x (gone p t e) = absurd (gone_deleted j e a)
      go (out d x) (out e y) = ap is_live d ∙ π.front i j l h same (ap is_live (sym e) ∙ a)
      go (gone p t d) (out e y) = absurd
          (y (ap (λ (k : SectionKey). compare_sections k (key_of text (E j))) (sections-order.equal (range_in ρ i p t)) ∙ same))

  pub marked_later : Unchanged (row ws index) (row ws' index) main-size used
  marked_later k l h = β.above k (omega (arith, top)) h

  later : Unchanged (row ws index) (row ws' index) main-size (main-size + delta-size)
  later k l h = marked_later k l (omega (arith, π.delta.room))

  marked-low : live_rows E' lo ≡ live_rows E lo
  marked-low = live_cong E' E lo (λ k l. β.below (0 + k) (omega arith) (omega arith))

  marked_in : live_rows (λ k. E' (lo + k)) (hi - lo) ≡ []
  marked_in = live-none (λ k. E' (lo + k)) (hi - lo)
      (λ k l. ap is_live (β.there (0 + (lo + k)) (omega arith) (omega arith)) ∙ tag_deleted (deleted_row (E (lo + k))) refl)

  marked-high : live_rows (λ k. E' (lo + (hi - lo + k))) (main-size - hi) ≡ live_rows (λ k. E (lo + (hi - lo + k))) (main-size - hi)
  marked-high = live_cong (λ k. E' (lo + (hi - lo + k))) (λ k. E (lo + (hi - lo + k))) (main-size - hi)
      (λ k l. β.above (0 + (lo + (hi - lo + k))) (omega (arith, ends)) (omega (arith, ends, π.main.room)))

  lived : length (live_rows (λ k. E (lo + k)) (hi - lo)) ≡ marked
  lived = ap length (live_cong (λ k. E (lo + k)) (λ k. row ws index (lo + k)) (hi - lo)
      (λ k l. ap (row ws index) (let e : 0 + (lo + k) ≡ lo + k = omega arith in e)))
      ∙ β.count

  parts_of : main-size ≡ lo + (hi - lo + (main-size - hi))
  parts_of = omega (arith, ends, top)

  pub marked-parts : InParts text ws' index used main-size delta-size (deleted + marked)
  marked-parts = record {
    main = record {
      store = σ;
      room = π.main.room;
      rows = record {
        whole = marked-whole;
        ordered = λ i j l h. rw (marked-keys i (omega arith), marked-keys j h) (π.main.rows.ordered i j l h);
      };
    };
    delta = same_from ws' used π.delta σ π.delta.room later;
    front = marked-front;
    live = λ j l. rw (later (main-size + j) (omega arith) (omega arith)) (π.live j l);
    apart = λ i j l a h. rw (later (main-size + j) (omega arith) (omega arith)) (apart i j l a h (at i l));
    positions = cached_as ws' π marked-keys later;
    count = omega (arith, lived_three E lo (hi - lo) (main-size - hi) parts_of, lived_three E' lo (hi - lo) (main-size - hi) parts_of, ap length marked-low, ap length marked_in, ap length marked-high, lived, π.count);
  }
    where
      apart : (i j : ℕ) → i < main-size → is_live (E' i) ≡ true → j < delta-size → At i
          → compare_sections (key_of text (rows_from ws index main-size j)) (key_of text (E' i)) ≢ Ordering.eq
      apart i j l a h (out e x) = rw e (π.apart i j l (ap is_live (sym e) ∙ a) h)
      apart i j l a h (gone p q e) = absurd (gone_deleted i e a)

  -- those that are left
  pub marked-live-entries : live_entries_of text E' main-size ≡ lives_low text E lo ++ lives_high text E main-size lo hi
  marked-live-entries =
      live-entries_three text E' main-size lo hi ends top
      ∙ ap₂ ◌++◌ (ap (map (entry_of text)) marked-low)
      (ap₂ ◌++◌ (ap (map (entry_of text)) marked_in) (ap (map (entry_of text)) marked-high))

-- ---- a section spliced into the delta

module _ {text ws ws₁ : List ℕ} {index used main-size delta-size deleted n place lo hi : ℕ} {header : Row} {spelling : Bytes}
    (π : InParts text ws index used main-size delta-size deleted) (ι : (k : ℕ) → k < n → ItemRow text (row ws index (main-size + delta-size + 1 + k)))
    (behind : main-size + delta-size + 1 + n ≤ used) (ν : NamesInBounds text header) (tag : header.tag ≡ 0)
    (foreign : (i : ℕ) → i < main-size → is_live (rows_from ws index 0 i) ≡ true
    → compare_sections (key_of text header) (key_of text (rows_from ws index 0 i)) ≢ Ordering.eq)
    (γ : PartitionPoint (PastRow false text (rows_from ws index 0) (key_of text header)) main-size place) (noted : header.k1 ≡ place)
    (ρ : IsEqualRange text (rows_from ws index main-size) delta-size (key_of text header) lo hi)
    (ς : Spliced (rows_from ws index main-size) (rows_from ws₁ index main-size) delta-size delta-size n lo hi header)
    (below : Unchanged (row ws index) (row ws₁ index) 0 main-size) (σ : Store ws₁ index used)
    (ω : HeaderAs text header spelling (rows_from ws₁ index main-size lo)) where
  abbrev G : ℕ → Row
  G = rows_from ws index main-size

  inner-delta : (k : ℕ) → k < n → ItemRow text (G (delta-size + 1 + k))
  inner-delta = inner-from text ws index (main-size + delta-size + 1) main-size delta-size refl ι

  main-row : (k : ℕ) → k < main-size → rows_from ws₁ index 0 k ≡ rows_from ws index 0 k
  main-row k l = below (0 + k) (omega arith) (omega arith)

  -- the entries of both parts then
  pub delta-report : kept_at text ws₁ index main-size (lo + (n + 1) + (delta-size - hi))
      ≡ merge_reports (live_entries_of text (rows_from ws index 0) main-size)
      (lower_at text G lo ++ (map (in_section (key_of text header)) (section_item spelling ∷ items_at text ws index (main-size + delta-size + 1) n)
      ++ higher_at text G delta-size lo hi))
  delta-report = ap₂ merge_reports (live-entries_cong text (rows_from ws₁ index 0) (rows_from ws index 0) main-size main-row)
      (closed_parts π.delta.rows inner-delta ν ρ ω ς
      ∙ ap (λ (l : List Item). lower_at text G lo ++ (map (in_section (key_of text header)) (section_item spelling ∷ l) ++ higher_at text G delta-size lo hi))
      (items-from text ws index (main-size + delta-size + 1) main-size delta-size refl n))

  pub delta-held : InParts text ws₁ index used main-size (lo + (n + 1) + (delta-size - hi)) deleted
  delta-held = record {
    main = same_from ws₁ used π.main σ π.main.room (λ k l h. below k l (omega arith));
    delta = record {
      store = σ;
      room = omega (arith, behind, range-ends ρ, ρ.high.most);
      rows = closed_ordered π.delta.rows inner-delta ν ρ ω ς;
    };
    front = λ i j l h. rw (main-row i (omega arith), main-row j h) (π.front i j l h);
    live = closed_each π.delta.rows inner-delta ν ρ ω ς (λ (r : Row). is_live r ≡ true) π.live
        (header-live (rows_from ws₁ index main-size lo) (header-tag ς.header ∙ tag)) (λ k l. item-live (G (delta-size + 1 + k)) header (inner-delta k l));
    apart = λ i j l a h. rw (main-row i l)
        (closed_keys π.delta.rows inner-delta ν ρ ω ς (λ (k : SectionKey). compare_sections k (key_of text (rows_from ws index 0 i)) ≢ Ordering.eq)
        (λ k q. π.apart i k l (ap is_live (sym (main-row i l)) ∙ a) q) (foreign i l (ap is_live (sym (main-row i l)) ∙ a)) j h);
    positions = λ j l h. partition_as
        (λ k q. ap (λ (r : Row). is_past false (compare_sections (key_of text (rows_from ws₁ index main-size j)) (key_of text r))) (main-row k q))
        (closed_places π.delta.rows inner-delta ν ρ ω ς (λ (q : SectionKey) (p : ℕ). PartitionPoint (PastRow false text (rows_from ws index 0) q) main-size p)
        π.positions (rw noted γ) j l h);
    count = ap (λ (l : List Row). length l + deleted) (live_cong (rows_from ws₁ index 0) (rows_from ws index 0) main-size main-row) ∙ π.count;
  }

-- ---- a section in place of deleted rows of its key

module _ {text ws ws₁ : List ℕ} {index used main-size delta-size deleted n lo hi : ℕ} {header : Row} {spelling : Bytes}
    (π : InParts text ws index used main-size delta-size deleted) (ι : (k : ℕ) → k < n → ItemRow text (row ws index (main-size + delta-size + 1 + k)))
    (ν : NamesInBounds text header) (tag : header.tag ≡ 0)
    (ρ : IsEqualRange text (rows_from ws index 0) main-size (key_of text header) lo hi) (fits : n + 1 ≤ hi - lo)
    (dies : (k : ℕ) → lo ≤ k → k < hi → is_live (rows_from ws index 0 k) ≡ false)
    (foreign : (j : ℕ) → j < delta-size → compare_sections (key_of text header) (key_of text (rows_from ws index main-size j)) ≢ Ordering.eq)
    (ς : Spliced (rows_from ws index 0) (rows_from ws₁ index 0) (main-size + delta-size) (main-size + delta-size) n lo (lo + (n + 1)) header)
    (σ : Store ws₁ index used) (ω : HeaderAs text header spelling (rows_from ws₁ index 0 lo)) where
  abbrev X : ℕ → Row
  X = rows_from ws index 0

  abbrev Y : ℕ → Row
  Y = rows_from ws₁ index 0

  -- the place behind the section
  abbrev mid : ℕ
  mid = lo + (n + 1)

  within : mid ≤ hi
  within = omega (arith, range-ends ρ)

  most : hi ≤ main-size
  most = ρ.high.most

  first : main-size + delta-size + 1 ≡ 0 + (main-size + delta-size) + 1
  first = omega arith

  inner : (k : ℕ) → k < n → ItemRow text (X (main-size + delta-size + 1 + k))
  inner = inner-from text ws index (main-size + delta-size + 1) 0 (main-size + delta-size) first ι

  -- among the rows up to its end, the section replaces the last ones
  front-rows : Ordered text X mid
  front-rows = record {
    whole = λ k l. π.main.rows.whole k (omega (arith, within, most));
    ordered = λ i j l h. π.main.rows.ordered i j l (omega (arith, within, most));
  }

  front-range : IsEqualRange text X mid (key_of text header) lo mid
  front-range = record {
    low = record { most = omega arith; past = ρ.low.past; rest = λ k l h. ρ.low.rest k l (omega (arith, within, most)) };
    high = record { most = omega arith; past = λ k l. ρ.high.past k (omega (arith, within)); rest = λ k l h. absurd (omega arith) };
  }

  front_spliced : Spliced X Y mid (main-size + delta-size) n lo mid header
  front_spliced = record { low = ς.low; header = ς.header; items = ς.items; high = λ k j p q e. absurd (omega arith) }

  low-row : (k : ℕ) → k < lo → Y k ≡ X k
  low-row k l = ς.low k (omega arith) l

  high-row : (k : ℕ) → mid ≤ k → k < main-size + delta-size → Y k ≡ X k
  high-row k l h = ς.high k k l (omega arith) (omega arith)

  keys : (k : ℕ) → k < main-size → key_of text (Y k) ≡ key_of text (X k)
  keys k l = by-lt k mid
      (λ h. closed_same front-rows inner ν front-range ω front_spliced refl k h)
      (λ h. ap (key_of text) (high-row k h (omega arith)))

  section-live : (k : ℕ) → lo ≤ k → k < mid → is_live (Y k) ≡ true
  section-live k l h = by-eq k lo
      (λ e. rw e (header-live (Y lo) (header-tag ς.header ∙ tag)))
      (λ e. ap is_live (ς.items k (main-size + delta-size + 1 + (k - suc lo)) (omega arith) h (omega arith))
      ∙ item-live (X (main-size + delta-size + 1 + (k - suc lo))) header (inner (k - suc lo) (omega arith)))

  -- what a position of main holds
  data Stands (k : ℕ) : Type 0 where
    other : Y k ≡ X k → (is_live (X k) ≡ true → compare_sections (key_of text header) (key_of text (X k)) ≢ Ordering.eq) → Stands k
    new : lo ≤ k → k < mid → Stands k

  stands : (k : ℕ) → k < main-size → Stands k
  stands k l =
      by-lt k lo
      (λ h. other (low-row k h) (λ a e. let z : Ordering.gt ≡ Ordering.eq = sym (range-before ρ k h) ∙ e in impossible cc))
      (λ h. by-lt k mid (new h)
      (λ q. other (high-row k q (omega arith)) (λ a e. by-lt k hi
      (λ p. let z : true ≡ false = sym a ∙ dies k h p in impossible cc)
      (λ p. let z : Ordering.lt ≡ Ordering.eq = sym (range-behind ρ k p l) ∙ e in impossible cc))))

  new-key : (k : ℕ) → k < main-size → lo ≤ k → k < mid → key_of text header ≡ key_of text (X k)
  new-key k l p q = sections-order.equal (range_in ρ k p (omega (arith, within)))

  placed_front : (i j : ℕ) → i < j → j < main-size → compare_sections (key_of text (Y i)) (key_of text (Y j)) ≡ Ordering.eq → is_live (Y j) ≡ true
      → is_live (Y i) ≡ true
  placed_front i j l h q a = go (stands i (omega arith)) (stands j h)
    where
      same : compare_sections (key_of text (X i)) (key_of text (X j)) ≡ Ordering.eq
      same = sym (ap₂ compare_sections (keys i (omega arith)) (keys j h)) ∙ q

      go : Stands i → Stands j → is_live (Y i) ≡ true
      go (new p t) y = section-live i p t
      go (other d x) (other e y) = ap is_live d ∙ π.front i j l h same (ap is_live (sym e) ∙ a)
      go (other d x) (new p t) =
          by-lt i lo
          (λ b. let z : compare_sections (key_of text header) (key_of text (X i)) ≡ Ordering.eq =
          ap₂ compare_sections (new-key j h p t) (sections-order.equal same) ∙ sections-order.same (key_of text (X j)) in
          let y : Ordering.gt ≡ Ordering.eq = sym (range-before ρ i b) ∙ z in impossible cc)
          (λ b. section-live i b (omega arith))

  later_rows : Unchanged (row ws index) (row ws₁ index) main-size (main-size + delta-size)
  later_rows k l h =
      let e : 0 + k ≡ k = omega arith in
      rw e at (high-row k (omega (arith, within, most)) h)

  placed_apart : (i j : ℕ) → i < main-size → is_live (Y i) ≡ true → j < delta-size → Stands i
      → compare_sections (key_of text (rows_from ws index main-size j)) (key_of text (Y i)) ≢ Ordering.eq
  placed_apart i j l a h (other e x) = rw e (π.apart i j l (ap is_live (sym e) ∙ a) h)
  placed_apart i j l a h (new p q) = λ z. foreign j h
      (ap₂ compare_sections (new-key i l p q ∙ sym (keys i l)) (sections-order.equal z) ∙ sections-order.same (key_of text (Y i)))

  parts_of' : main-size ≡ lo + (n + 1 + (main-size - mid))
  parts_of' = omega (arith, within, most)

  low-live : live_rows Y lo ≡ live_rows X lo
  low-live = live_cong Y X lo low-row

  mid_live : live_rows (λ k. Y (lo + k)) (n + 1) ≡ tabulate (λ k. Y (lo + k)) (n + 1)
  mid_live = live_all (λ k. Y (lo + k)) (n + 1) (λ k l. section-live (lo + k) (omega arith) (omega arith))

  mid_deleted : live_rows (λ k. X (lo + k)) (n + 1) ≡ []
  mid_deleted = live-none (λ k. X (lo + k)) (n + 1) (λ k l. dies (lo + k) (omega arith) (omega (arith, within)))

  high-live : live_rows (λ k. Y (lo + (n + 1 + k))) (main-size - mid) ≡ live_rows (λ k. X (lo + (n + 1 + k))) (main-size - mid)
  high-live = live_cong (λ k. Y (lo + (n + 1 + k))) (λ k. X (lo + (n + 1 + k))) (main-size - mid)
      (λ k l. high-row (lo + (n + 1 + k)) (omega arith) (omega arith))

  -- enough rows are deleted
  pub deleted_room : n + 1 ≤ deleted
  deleted_room = omega (arith, lived_three X lo (n + 1) (main-size - mid) parts_of', ap length mid_deleted, live-most X lo, live-most (λ k. X (lo + (n + 1 + k))) (main-size - mid), within, most, π.count)

  pub placed_held : InParts text ws₁ index used main-size delta-size (deleted - (n + 1))
  placed_held = record {
    main = record {
      store = σ;
      room = π.main.room;
      rows = record {
        whole = λ k l. by-lt k mid
            (λ h. (closed_ordered front-rows inner ν front-range ω front_spliced).whole k (omega arith))
            (λ h. rw (high-row k h (omega arith)) (π.main.rows.whole k l));
        ordered = λ i j l h. rw (keys i (omega arith), keys j h) (π.main.rows.ordered i j l h);
      };
    };
    delta = same_from ws₁ used π.delta σ π.delta.room later_rows;
    front = placed_front;
    live = λ j l. rw (later_rows (main-size + j) (omega arith) (omega arith)) (π.live j l);
    apart = λ i j l a h. rw (later_rows (main-size + j) (omega arith) (omega arith)) (placed_apart i j l a h (stands i l));
    positions = cached_as ws₁ π keys later_rows;
    count = omega (
      arith,
      lived_three X lo (n + 1) (main-size - mid) parts_of',
      lived_three Y lo (n + 1) (main-size - mid) parts_of',
      ap length low-live,
      ap length mid_live,
      length-tabulate (λ k. Y (lo + k)) (n + 1),
      ap length mid_deleted,
      ap length high-live,
      deleted_room,
      π.count,
    );
  }

  -- the rows behind the section
  abbrev h : ℕ → Row
  h k = X (lo + (n + 1 + k))

  -- the deleted ones do not count
  high_deleted : live_rows (λ k. X (lo + (n + 1 + k))) (main-size - mid) ≡ live_rows (λ k. X (lo + (hi - lo + k))) (main-size - hi)
  high_deleted =
      ap (live_rows h) (let e : main-size - mid ≡ hi - mid + (main-size - hi) = omega (arith, within, most) in e)
      ∙ live-split h (hi - mid) (main-size - hi)
      ∙ ap₂ ◌++◌ (live-none h (hi - mid) (λ k l. dies (lo + (n + 1 + k)) (omega arith) (omega arith)))
      (live_cong (λ k. h (hi - mid + k)) (λ k. X (lo + (hi - lo + k))) (main-size - hi)
      (λ k l. ap X (let e : lo + (n + 1 + (hi - mid + k)) ≡ lo + (hi - lo + k) = omega (arith, within) in e)))

  -- the entries of both parts then
  pub placed_report : kept_at text ws₁ index main-size delta-size
      ≡ merge_reports
      (lives_low text X lo ++ (map (in_section (key_of text header)) (section_item spelling ∷ items_at text ws index (main-size + delta-size + 1) n)
      ++ lives_high text X main-size lo hi))
      (entries_from text ws index main-size delta-size)
  placed_report = ap₂ merge_reports
      (ap (live_entries_of text Y) parts_of'
      ∙ ap (map (entry_of text)) (live_three Y lo (n + 1) (main-size - mid)
      ∙ ap₂ ◌++◌ low-live (ap₂ ◌++◌ mid_live (high-live ∙ high_deleted)))
      ∙ map-append (entry_of text) (live_rows X lo) (tabulate (λ k. Y (lo + k)) (n + 1) ++ live_rows (λ k. X (lo + (hi - lo + k))) (main-size - hi))
      ∙ ap (λ (l : Report). lives_low text X lo ++ l)
      (map-append (entry_of text) (tabulate (λ k. Y (lo + k)) (n + 1)) (live_rows (λ k. X (lo + (hi - lo + k))) (main-size - hi))
      ∙ ap (λ (l : Report). l ++ lives_high text X main-size lo hi)
      (map-tabulate (entry_of text) (λ k. Y (lo + k)) (n + 1) ∙ closed_section front-rows inner ν front-range ω front_spliced
      ∙ ap (λ (l : List Item). map (in_section (key_of text header)) (section_item spelling ∷ l))
      (items-from text ws index (main-size + delta-size + 1) 0 (main-size + delta-size) first n))))
      (tabulate_cong (λ k. entry_of text (rows_from ws₁ index main-size k)) (λ k. entry_of text (rows_from ws index main-size k)) delta-size
      (λ k l. ap (entry_of text) (later_rows (main-size + k) (omega arith) (omega arith))))
