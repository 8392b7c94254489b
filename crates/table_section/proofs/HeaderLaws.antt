-- A section's header row, and rows that get a test name and a path. Assumes nothing.
use mathlib.Core.Path.{◌≡◌, refl, sym, ap, ◌∙◌}
use mathlib.Core.Logic.{◌≢◌}
use mathlib.Core.List.{[], ◌∷◌}
use mathlib.Core.Option.{Option}
use Prim.Native.Nat.{ℕ, zero, suc, ◌+◌, ◌-◌, ◌≤◌, ◌<◌}
use native.Mathlib.Nat.{add-zero}
use native.Mathlib.Omega.{arith}
use Rattle.table.specs.declared.Row.{Row}
use Rattle.table.specs.Places.{tabulate}
use Rattle.table.proofs.PlaceLaws.{by-eq, by-lt}
use Rattle.model.specs.Bytes.{Bytes}
use Rattle.model.specs.Path.{Path, components}
use Rattle.model.specs.Report.{Function, Item, section_item, function_item, branch_item, line_item, Entry, Report, SectionKey, in_section}
use Rattle.model.specs.Reading.{spelling_of}
use Rattle.model.proofs.KeyOrder.{sections-order}
use Rattle.table_item.specs.Items.{kind_of, tombstone_tag, by_kind, item_of, ItemInBounds}
use Rattle.table_section.specs.Sections.{test_of, path_of, entry_of, key_of, NamesInBounds, RowInBounds, Ordered, IsEqualRange}
use Rattle.table_section.specs.Splice.{with_section, with_path, HeaderRow}
use Rattle.table_section.proofs.RangeLaws.{range_in}

-- ---- rows that get a test name and a path

kind-kept : (kind : ℕ) → kind ≢ 0 → (p p' : Bytes) (b c d : Item) → by_kind kind (section_item p) b c d ≡ by_kind kind (section_item p') b c d
kind-kept zero h p p' b c d = absurd (h refl)
kind-kept (suc zero) h p p' b c d = refl
kind-kept (suc (suc zero)) h p p' b c d = refl
kind-kept (suc (suc (suc kind))) h p p' b c d = refl

-- what an item is does not go by its test name and path
pub item-kept : (text : Bytes) (r key : Row) → kind_of r ≢ 0 → item_of text (with_section r key) ≡ item_of text r
unfolding item_of
item-kept text r key h = kind-kept (kind_of r) h (path_of text key) (path_of text r) _ _ _

pub whole-kept : {text : Bytes} {r : Row} {key : Row} → ItemInBounds text r → NamesInBounds text key → RowInBounds text (with_section r key)
whole-kept g ν = record {
  named = record { test = ν.test; path = ν.path };
  good = record { kind = g.kind; name = g.name; checksum = g.checksum };
}

-- ---- the spelling

pub section-item : (text : Bytes) (r : Row) → kind_of r ≡ 0 → item_of text r ≡ section_item (path_of text r)
unfolding item_of
section-item text r e = rw e

other-kind : (path : Bytes) (key : SectionKey) (es : Report) (kind : ℕ) → kind ≢ 0 → (p : Bytes) (f : Function) (l b h : ℕ) (u : Option ℕ)
    (x y : ℕ) (z : Option Bytes)
    → spelling_of path (in_section key (by_kind kind (section_item p) (function_item f) (branch_item l b h u) (line_item x y z)) ∷ es) ≡ path
unfolding spelling_of
other-kind path key es zero e p f l b h u x y z = absurd (e refl)
other-kind path key es (suc zero) e p f l b h u x y z = refl
other-kind path key es (suc (suc zero)) e p f l b h u x y z = refl
other-kind path key es (suc (suc (suc kind))) e p f l b h u x y z = refl

-- the spelling that a row gives
module _ (path text : Bytes) (r : Row) (es : Report) where
  spelled_by : kind_of r ≡ 0 → spelling_of path (entry_of text r ∷ es) ≡ path_of text r
  unfolding spelling_of
  spelled_by e = let q : (entry_of text r).item ≡ section_item (path_of text r) = section-item text r e in rw (q, spelling_of)

  not_spelled-by : kind_of r ≢ 0 → spelling_of path (entry_of text r ∷ es) ≡ path
  unfolding item_of
  not_spelled-by h = other-kind path (key_of text r) es (kind_of r) h _ _ _ _ _ _ _ _ _

-- the entries from lo up to hi
abbrev pub run_at : Bytes → (ℕ → Row) → ℕ → ℕ → Report
run_at text f lo hi = tabulate (λ k. entry_of text (f (lo + k))) (hi - lo)

range_cons : (text : Bytes) (f : ℕ → Row) (lo hi : ℕ) → lo < hi
    → run_at text f lo hi ≡ entry_of text (f lo) ∷ tabulate (λ k. entry_of text (f (lo + suc k))) (hi - suc lo)
unfolding tabulate
range_cons text f lo hi h =
    ap (tabulate (λ k. entry_of text (f (lo + k)))) (let e : hi - lo ≡ suc (hi - suc lo) = omega arith in e)
    ∙ ap (λ (j : ℕ). entry_of text (f j) ∷ tabulate (λ k. entry_of text (f (lo + suc k))) (hi - suc lo)) (add-zero lo)

-- ---- the section's header row

abbrev tag_of : Row → ℕ
tag_of r = r.tag

-- the header row keeps the key's insert position
pub header-place : {first key r : Row} {lo hi : ℕ} → HeaderRow first lo hi key r → r.k1 ≡ key.k1
header-place {first} {lo = lo} {hi = hi} ω =
    by-lt lo hi
    (λ l. by-eq first.tag 0 (λ e. ap (λ (x : Row). x.k1) (ω.spelled l e)) (λ e. ap (λ (x : Row). x.k1) (ω.other l e)))
    (λ h. ap (λ (x : Row). x.k1) (ω.new h))

-- the row is the header entry of the section that has the key, with this spelling
pub record HeaderAs (text : Bytes) (key : Row) (spelling : Bytes) (r : Row) : Type 0 where
  pub whole : RowInBounds text r
  pub is : entry_of text r ≡ in_section (key_of text key) (section_item spelling)

same-entry : (t : Bytes) {p q : Path} {i j : Item} → p ≡ q → i ≡ j → ◌≡◌ {A = Entry} (in_section (t, p) i) (in_section (t, q) j)
same-entry t e f = λ k. in_section (t, e k) (f k)

module _ {text : Bytes} {f : ℕ → Row} {n lo hi : ℕ} {key : Row} (σ : Ordered text f n) (ν : NamesInBounds text key) (tag : key.tag ≡ 0)
    (ρ : IsEqualRange text f n (key_of text key) lo hi) where
  section-good : (r : Row) → r.tag ≡ 0 → ItemInBounds text r
  section-good r e = omega arith

  key-entry : {spelling : Bytes} → spelling ≡ path_of text key → HeaderAs text key spelling key
  key-entry e = record {
    whole = record { named = ν; good = section-good key tag };
    is = same-entry (test_of text key) refl (section-item text key (omega arith) ∙ ap section_item (sym e));
  }

  spelled-entry : {spelling : Bytes} → spelling ≡ path_of text (f lo) → lo < hi → (f lo).tag ≡ 0 → HeaderAs text key spelling (with_path key (f lo))
  spelled-entry e l h = record {
    whole = record {
      named = record { test = ν.test; path = (σ.whole lo (omega (arith, ρ.high.most))).named.path };
      good = section-good (with_path key (f lo)) tag;
    };
    is = same-entry (test_of text key) (sym paths)
        (section-item text (with_path key (f lo)) (omega arith) ∙ ap section_item (sym e));
  }
    where
      paths : components (path_of text key) ≡ components (path_of text (f lo))
      paths = ap (λ (k : SectionKey). k.1) (sections-order.equal (range_in ρ lo (omega arith) l))

  -- spelled as in the entries from lo on, or as the key where there is none or the first row is deleted
  pub header_as : {r : Row} (es : Report) → (lo < hi → (f lo).tag ≢ tombstone_tag → (l : Report) × (es ≡ entry_of text (f lo) ∷ l)) → (lo < hi → (f lo).tag ≡ tombstone_tag → es ≡ [])
      → (hi ≤ lo → es ≡ []) → HeaderRow (f lo) lo hi key r → HeaderAs text key (spelling_of (path_of text key) es) r
  unfolding spelling_of
  header_as es live deleted none ω =
      by-lt lo hi
      (λ l. by-eq (f lo).tag 0
      (λ e. rw (ω.spelled l e) (spelled (live l (omega arith)) l e))
      (λ e. rw (ω.other l e) (by-eq (f lo).tag tombstone_tag
      (λ d. key-entry (ap (spelling_of (path_of text key)) (deleted l d)))
      (λ d. not_spelled (live l d) (omega arith)))))
      (λ h. rw (ω.new h) (key-entry (ap (spelling_of (path_of text key)) (none h))))
    where
      spelled : (l : Report) × (es ≡ entry_of text (f lo) ∷ l) → lo < hi → (f lo).tag ≡ 0 → HeaderAs text key (spelling_of (path_of text key) es) (with_path key (f lo))
      spelled (l, e) h z = spelled-entry (ap (spelling_of (path_of text key)) e ∙ spelled_by (path_of text key) text (f lo) l (omega arith)) h z

      not_spelled : (l : Report) × (es ≡ entry_of text (f lo) ∷ l) → kind_of (f lo) ≢ 0 → HeaderAs text key (spelling_of (path_of text key) es) key
      not_spelled (l, e) h = key-entry (ap (spelling_of (path_of text key)) e ∙ not_spelled-by (path_of text key) text (f lo) l h)

  -- where all rows are live
  pub header-entry : {r : Row} → (lo < hi → (f lo).tag ≢ tombstone_tag) → HeaderRow (f lo) lo hi key r → HeaderAs text key (spelling_of (path_of text key) (run_at text f lo hi)) r
  unfolding tabulate
  header-entry living ω =
      header_as (run_at text f lo hi) (λ l d. (tabulate (λ k. entry_of text (f (lo + suc k))) (hi - suc lo), range_cons text f lo hi l)) (λ l d. absurd (living l d))
      (λ h. ap (tabulate (λ k. entry_of text (f (lo + k)))) (let e : hi - lo ≡ 0 = omega arith in e)) ω

-- the header row has the key's tag
pub header-tag : {first key r : Row} {lo hi : ℕ} → HeaderRow first lo hi key r → r.tag ≡ key.tag
header-tag {first} {lo = lo} {hi = hi} ω =
    by-lt lo hi
    (λ l. by-eq first.tag 0 (λ e. ap tag_of (ω.spelled l e)) (λ e. ap tag_of (ω.other l e)))
    (λ h. ap tag_of (ω.new h))
