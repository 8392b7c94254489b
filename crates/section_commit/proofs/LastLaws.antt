-- A section appended behind all others, as in most texts. Assumes nothing.
use mathlib.Core.Path.{◌≡◌, sym, ap, ap₂, ◌∙◌}
use mathlib.Core.Logic.{◌≢◌}
use mathlib.Core.Bool.{true}
use mathlib.Core.List.{List, [], ◌∷◌, ◌++◌, map, map-append, append-nil}
use Prim.Native.Nat.{Ordering}
use Prim.Native.Nat.{ℕ, suc, ◌+◌, ◌-◌, ◌≤◌, ◌<◌}
use native.Mathlib.Omega.{arith}
use lib.ListN.{length, length-append}
use Rattle.table.specs.declared.Row.{Row}
use Rattle.table.specs.Places.{tabulate}
use Rattle.table.specs.Store.{Store}
use Rattle.table.proofs.PlaceLaws.{by-eq, by-lt}
use Rattle.table.proofs.TabulateLaws.{length-tabulate, tabulate_cong, map-tabulate}
use Rattle.ordmap.proofs.Results.{impossible}
use Rattle.model.specs.Report.{Item, section_item, Report, section_key, in_section, compare_sections}
use Rattle.model.specs.Reading.{spelling_of, keep_section, replace_section}
use Rattle.model.proofs.KeyOrder.{sections-order}
use Rattle.table_item.specs.Items.{ItemRow}
use Rattle.table_item.specs.SortedItems.{items_at, SortedItems}
use Rattle.table_tombstone.specs.Live.{is_live, live_rows}
use Rattle.table_tombstone.proofs.LiveLaws.{live_cong, live-split, live_all}
use Rattle.table_section.specs.Sections.{test_of, path_of, entry_of, key_of, NamesInBounds, rows_from, SectionsFrom, IsEqualRange}
use Rattle.table_section.specs.Splice.{Spliced}
use Rattle.table_section.proofs.RangeLaws.{range-before, range-ends}
use Rattle.table_section.proofs.HeaderLaws.{run_at, HeaderAs, header-entry, header-tag}
use Rattle.table_section.proofs.ReplaceLaws.{Compared, replaced, keep_some}
use Rattle.table_section.proofs.SectionLaws.{closed_section, closed_ordered}
use Rattle.section_commit.specs.Commit.{live_entries_of, kept_at, InParts, Committed}
use Rattle.section_commit.proofs.HeldLaws.{live-entries-each, none-delta, kept-main}
use Rattle.section_commit.proofs.CommittedLaws.{three, inner-from, items-from, item-live, header-live}

module _ {text ws : List ℕ} (ws₁ : List ℕ) {index used main-size delta-size deleted n lo hi : ℕ} {key : Row} (π : InParts text ws index used main-size delta-size deleted)
    (ο : SortedItems text ws index used (main-size + delta-size + 1) n) (z : n ≢ 0) (ν : NamesInBounds text key) (tag : key.tag ≡ 0)
    (ρ : IsEqualRange text (rows_from ws index 0) main-size (key_of text key) lo hi) (none : delta-size ≡ 0) (last : lo ≡ main-size)
    (ς : Spliced (rows_from ws index 0) (rows_from ws₁ index 0) main-size main-size n lo hi key) (σ : Store ws₁ index used) where
  abbrev P : ℕ → Row
  P = rows_from ws index 0

  abbrev Q : ℕ → Row
  Q = rows_from ws₁ index 0

  ends : hi ≡ lo
  ends = omega (arith, range-ends ρ, ρ.high.most)

  first : main-size + delta-size + 1 ≡ 0 + main-size + 1
  first = omega arith

  inner : (k : ℕ) → k < n → ItemRow text (P (main-size + 1 + k))
  inner = inner-from text ws index (main-size + delta-size + 1) 0 main-size first ο.inner

  header_said : HeaderAs text key (spelling_of (path_of text key) (run_at text P lo hi)) (Q lo)
  header_said = header-entry π.main.rows ν tag ρ (λ h. absurd (omega arith)) ς.header

  all-rows : main-size + (n + 1) ≡ lo + (n + 1) + (main-size - hi)
  all-rows = omega (arith, ends)

  old_row : (k : ℕ) → k < main-size → Q k ≡ P k
  old_row k l = ς.low k (omega arith) (omega arith)

  new-live : (k : ℕ) → main-size ≤ k → k < main-size + (n + 1) → is_live (Q k) ≡ true
  new-live k l h = by-eq k lo
      (λ e. rw e (header-live (Q lo) (header-tag ς.header ∙ tag)))
      (λ e. ap is_live (ς.items k (main-size + 1 + (k - suc lo)) (omega arith) (omega arith) (omega arith))
      ∙ item-live (P (main-size + 1 + (k - suc lo))) key (inner (k - suc lo) (omega arith)))

  rows : SectionsFrom text ws₁ index used 0 (main-size + (n + 1))
  rows = record { store = σ; room = omega (arith, ο.room); rows = rw all-rows (closed_ordered π.main.rows inner ν ρ header_said ς) }

  new-key : (k : ℕ) → main-size ≤ k → k < main-size + (n + 1) → key_of text (Q k) ≡ key_of text key
  new-key k l h = by-eq k lo
      (λ e. ap (λ (j : ℕ). key_of text (Q j)) e ∙ ap section_key header_said.is)
      (λ e. ap (key_of text) (ς.items k (main-size + 1 + (k - suc lo)) (omega arith) (omega arith) (omega arith)))

  front : (i j : ℕ) → i < j → j < main-size + (n + 1) → compare_sections (key_of text (Q i)) (key_of text (Q j)) ≡ Ordering.eq → is_live (Q j) ≡ true
      → is_live (Q i) ≡ true
  front i j l h e a =
      by-lt i main-size
      (λ p. by-lt j main-size
      (λ q. ap is_live (old_row i p) ∙ π.front i j l q (sym (ap₂ (λ (x y : Row). compare_sections (key_of text x) (key_of text y)) (old_row i p) (old_row j q)) ∙ e)
      (ap is_live (sym (old_row j q)) ∙ a))
      (λ q. let x : compare_sections (key_of text key) (key_of text (P i)) ≡ Ordering.eq =
      ap₂ compare_sections (sym (new-key j q h) ∙ sym (sections-order.equal e)) (ap (key_of text) (sym (old_row i p))) ∙ sections-order.same (key_of text (Q i)) in
      let y : Ordering.gt ≡ Ordering.eq = sym (range-before ρ i (omega arith)) ∙ x in impossible cc))
      (λ p. new-live i p (omega arith))

  -- the live rows: those before, and the section
  live : live_rows Q (main-size + (n + 1)) ≡ live_rows P main-size ++ tabulate (λ k. Q (main-size + k)) (n + 1)
  live =
      live-split Q main-size (n + 1)
      ∙ ap₂ ◌++◌ (live_cong Q P main-size old_row) (live_all (λ k. Q (main-size + k)) (n + 1) (λ k l. new-live (main-size + k) (omega arith) (omega arith)))

  abbrev its : List Item
  its = items_at text ws index (main-size + delta-size + 1) n

  abbrev new : Report
  new = map (in_section (key_of text key)) (section_item (spelling_of (path_of text key) []) ∷ its)

  no_range : run_at text P lo hi ≡ []
  unfolding tabulate
  no_range = ap (tabulate (λ k. entry_of text (P (lo + k)))) (let e : hi - lo ≡ 0 = omega (arith, ends) in e)

  section : map (entry_of text) (tabulate (λ k. Q (main-size + k)) (n + 1)) ≡ new
  section =
      map-tabulate (entry_of text) (λ k. Q (main-size + k)) (n + 1)
      ∙ tabulate_cong (λ k. entry_of text (Q (main-size + k))) (λ k. entry_of text (Q (lo + k))) (n + 1)
      (λ k l. ap (λ (j : ℕ). entry_of text (Q (j + k))) (sym last))
      ∙ closed_section π.main.rows inner ν ρ header_said ς
      ∙ ap₂ (λ (es : Report) (l : List Item). map (in_section (key_of text key)) (section_item (spelling_of (path_of text key) es) ∷ l)) no_range
      (items-from text ws index (main-size + delta-size + 1) 0 main-size first n)

  before-key : Compared (key_of text key) Ordering.gt (live_entries_of text P main-size)
  before-key = live-entries-each text _ P main-size (λ k l a. range-before ρ k (omega arith))

  keeps : live_entries_of text P main-size ++ new ≡ keep_section (test_of text key) (path_of text key) its (live_entries_of text P main-size)
  keeps =
      ap (λ (l : Report). live_entries_of text P main-size ++ l) (sym (append-nil new))
      ∙ sym (replaced (test_of text key) (path_of text key) its (live_entries_of text P main-size) [] [] before-key tt tt)
      ∙ ap (replace_section (test_of text key) (path_of text key) its) (append-nil (live_entries_of text P main-size))
      ∙ sym (keep_some (test_of text key) (path_of text key) its (live_entries_of text P main-size) (rw length-tabulate z))

  pub committed_last : {r : ℕ} → r ≡ lo + (n + 1) + (main-size - hi) → Committed text ws ws₁ index used (three main-size delta-size deleted) n key (three r 0 deleted)
  committed_last count = rw (count ∙ sym all-rows) (record {
    report =
        kept-main text ws₁ index (main-size + (n + 1))
        ∙ ap (map (entry_of text)) live
        ∙ map-append (entry_of text) (live_rows P main-size) (tabulate (λ k. Q (main-size + k)) (n + 1))
        ∙ ap (λ (l : Report). live_entries_of text P main-size ++ l) section
        ∙ keeps
        ∙ ap (keep_section (test_of text key) (path_of text key) its) (sym (kept-main text ws index main-size) ∙ ap (kept_at text ws index main-size) (sym none));
    held = none-delta rows front (omega (
      arith,
      ap length live,
      length-append (live_rows P main-size) (tabulate (λ k. Q (main-size + k)) (n + 1)),
      length-tabulate (λ k. Q (main-size + k)) (n + 1),
      π.count,
    ));
  })
