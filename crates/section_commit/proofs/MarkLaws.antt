-- Rows of main and delta in one order, tombstones included: by section, and in a section the live rows first. Of these
-- the live rows are the merged report. Assumes nothing.
use mathlib.Core.Path.{◌≡◌, refl, sym, ap, ◌∙◌}
use mathlib.Core.Bool.{Bool, true, false}
use mathlib.Core.List.{List, [], ◌∷◌, map}
use Prim.Native.Nat.{ℕ, compare, Ordering}
use Rattle.table.specs.declared.Row.{Row}
use Rattle.ordmap.specs.Compare.{lex, compare_pair}
use Rattle.ordmap.specs.Keyed.{by_order, Order}
use Rattle.ordmap.proofs.Orderings.{number-order, pair-order}
use Rattle.ordmap.proofs.Results.{impossible}
use Rattle.std.specs.Prelude.{if◌then◌else◌}
use Rattle.model.specs.Lists.{filter}
use Rattle.model.specs.Bytes.{Bytes}
use Rattle.model.specs.Report.{Entry, Report, SectionKey, section_key, compare_sections}
use Rattle.model.proofs.ListLaws.{All}
use Rattle.model.proofs.KeyOrder.{sections-order}
use Rattle.table_tombstone.specs.Live.{is_live}
use Rattle.table_section.specs.Sections.{entry_of, key_of}
use Rattle.section_commit.specs.Commit.{merge_sorted, merge_reports}
use Rattle.section_commit.proofs.PairLaws.{Pairs}

-- a section's key, and whether the row is deleted
abbrev pub Mark : Type 0
Mark = SectionKey × ℕ

abbrev pub mark_of : Bytes → Row → Mark
mark_of text r = (key_of text r, (if is_live r then 0 else 1))

abbrev pub compare_marks : Mark → Mark → Ordering
compare_marks = compare_pair compare_sections compare

pub marks-order : Order compare_marks
marks-order = pair-order compare_sections compare sections-order number-order

module _ (text : Bytes) where
  abbrev entries : List Row → Report
  entries rows = map (entry_of text) rows

  abbrev live-entries : List Row → Report
  live-entries rows = entries (filter is_live rows)

  abbrev both : List Row → List Row → List Row
  both xs ys = merge_sorted (mark_of text) compare_marks xs ys

  -- a live row behind a deleted one is of a greater section
  abbrev pub Front : Row → Row → Type 0
  Front a b = is_live a ≡ false → is_live b ≡ true → compare_sections (key_of text a) (key_of text b) ≡ Ordering.lt

  abbrev Living : List Row → Type 0
  Living ys = All (λ y. is_live y ≡ true) ys

  live-entries_some : (x : Row) (l : List Row) → is_live x ≡ true → live-entries (x ∷ l) ≡ entry_of text x ∷ live-entries l
  unfolding filter
  live-entries_some x l e = rw e

  live-entries-none : (x : Row) (l : List Row) → is_live x ≡ false → live-entries (x ∷ l) ≡ live-entries l
  unfolding filter
  live-entries-none x l e = rw e

  -- an entry that comes before all of the first report
  before-all : (y : Entry) (ys l : Report) → All (λ e. compare_sections (section_key y) (section_key e) ≡ Ordering.lt) l
      → merge_reports l (y ∷ ys) ≡ y ∷ merge_reports l ys
  before-all y ys [] h = refl
  before-all y ys (x ∷ l) h =
      let o : compare_sections (section_key x) (section_key y) ≡ Ordering.gt = sections-order.greater h.0 in
      rw o

  -- the live rows behind a deleted row that is not less than y
  later : (x y : Row) → is_live x ≡ false → (o : Ordering) → compare_sections (key_of text x) (key_of text y) ≡ o → (o ≡ Ordering.lt → ⊥)
      → (xs : List Row) → All (Front x) xs → All (λ e. compare_sections (key_of text y) (section_key e) ≡ Ordering.lt) (live-entries xs)
  unfolding filter
  later x y d o e h [] a = tt
  later x y d o e h (z ∷ xs) a = go (is_live z) refl (later x y d o e h xs a.1)
    where
      first : (p : Ordering) → compare_sections (key_of text x) (key_of text y) ≡ p → (p ≡ Ordering.lt → ⊥) → is_live z ≡ true
          → compare_sections (key_of text y) (key_of text z) ≡ Ordering.lt
      first Ordering.lt q n t = absurd (n refl)
      first Ordering.eq q n t = let k : key_of text x ≡ key_of text y = sections-order.equal q in rw k at (a.0 d t)
      first Ordering.gt q n t = sections-order.trans (sections-order.less q) (a.0 d t)

      go : (b : Bool) → is_live z ≡ b → All (λ e. compare_sections (key_of text y) (section_key e) ≡ Ordering.lt) (live-entries xs)
          → All (λ e. compare_sections (key_of text y) (section_key e) ≡ Ordering.lt) (entries (if b then z ∷ filter is_live xs else filter is_live xs))
      go true t r = (first o e h t, r)
      go false t r = r

  live-entries-from : (x : Row) (xs ys : List Row) → All (Front x) xs → Living ys
      → ((l : List Row) → Living l → live-entries (both xs l) ≡ merge_reports (live-entries xs) (entries l))
      → live-entries (both (x ∷ xs) ys) ≡ merge_reports (live-entries (x ∷ xs)) (entries ys)
  live-entries-from x xs [] a s rest = go (is_live x) refl
    where
      go : (b : Bool) → is_live x ≡ b → live-entries (x ∷ both xs []) ≡ merge_reports (live-entries (x ∷ xs)) []
      go true t =
          live-entries_some x (both xs []) t ∙ ap (λ (l : Report). entry_of text x ∷ l) (rest [] tt)
          ∙ ap (λ (l : Report). merge_reports l []) (sym (live-entries_some x xs t))
      go false t = live-entries-none x (both xs []) t ∙ rest [] tt ∙ ap (λ (l : Report). merge_reports l []) (sym (live-entries-none x xs t))
  live-entries-from x xs (y ∷ ys) a s rest = go (is_live x) refl (compare_sections (key_of text x) (key_of text y)) refl (live-entries-from x xs ys a s.1 rest)
    where
      -- by how the marks compare
      marked : (b : Bool) → is_live x ≡ b → (o : Ordering) → compare_sections (key_of text x) (key_of text y) ≡ o
          → both (x ∷ xs) (y ∷ ys) ≡ by_order (lex o (compare (if b then 0 else 1) 0)) (x ∷ both xs (y ∷ ys)) (x ∷ both xs ys) (y ∷ both (x ∷ xs) ys)
      marked b t o e = rw (t, e, s.0) refl

      alive_there : is_live x ≡ true → (o : Ordering) → compare_sections (key_of text x) (key_of text y) ≡ o
          → live-entries (both (x ∷ xs) ys) ≡ merge_reports (live-entries (x ∷ xs)) (entries ys)
          → live-entries (by_order (lex o Ordering.eq) (x ∷ both xs (y ∷ ys)) (x ∷ both xs ys) (y ∷ both (x ∷ xs) ys))
          ≡ merge_reports (entry_of text x ∷ live-entries xs) (entries (y ∷ ys))
      alive_there t Ordering.lt e i = live-entries_some x _ t ∙ ap (λ (l : Report). entry_of text x ∷ l) (rest (y ∷ ys) s) ∙ (rw e refl)
      alive_there t Ordering.eq e i = live-entries_some x _ t ∙ ap (λ (l : Report). entry_of text x ∷ l) (rest ys s.1) ∙ (rw e refl)
      alive_there t Ordering.gt e i =
          live-entries_some y _ s.0
          ∙ ap (λ (l : Report). entry_of text y ∷ l) (i ∙ ap (λ (l : Report). merge_reports l (entries ys)) (live-entries_some x xs t)) ∙ (rw e refl)

      deleted_later : is_live x ≡ false → (o : Ordering) → compare_sections (key_of text x) (key_of text y) ≡ o → (o ≡ Ordering.lt → ⊥)
          → live-entries (both (x ∷ xs) ys) ≡ merge_reports (live-entries (x ∷ xs)) (entries ys)
          → live-entries (y ∷ both (x ∷ xs) ys) ≡ merge_reports (live-entries xs) (entries (y ∷ ys))
      deleted_later t o e n i =
          live-entries_some y _ s.0
          ∙ ap (λ (l : Report). entry_of text y ∷ l) (i ∙ ap (λ (l : Report). merge_reports l (entries ys)) (live-entries-none x xs t))
          ∙ sym (before-all (entry_of text y) (entries ys) (live-entries xs) (later x y t o e n xs a))

      go : (b : Bool) → is_live x ≡ b → (o : Ordering) → compare_sections (key_of text x) (key_of text y) ≡ o
          → live-entries (both (x ∷ xs) ys) ≡ merge_reports (live-entries (x ∷ xs)) (entries ys)
          → live-entries (both (x ∷ xs) (y ∷ ys)) ≡ merge_reports (live-entries (x ∷ xs)) (entries (y ∷ ys))
      go true t o e i =
          ap live-entries (marked true t o e) ∙ alive_there t o e i ∙ ap (λ (l : Report). merge_reports l (entries (y ∷ ys))) (sym (live-entries_some x xs t))
      go false t Ordering.lt e i =
          ap live-entries (marked false t Ordering.lt e) ∙ live-entries-none x _ t ∙ rest (y ∷ ys) s
          ∙ ap (λ (l : Report). merge_reports l (entries (y ∷ ys))) (sym (live-entries-none x xs t))
      go false t Ordering.eq e i =
          ap live-entries (marked false t Ordering.eq e) ∙ deleted_later t Ordering.eq e (λ z. impossible cc) i
          ∙ ap (λ (l : Report). merge_reports l (entries (y ∷ ys))) (sym (live-entries-none x xs t))
      go false t Ordering.gt e i =
          ap live-entries (marked false t Ordering.gt e) ∙ deleted_later t Ordering.gt e (λ z. impossible cc) i
          ∙ ap (λ (l : Report). merge_reports l (entries (y ∷ ys))) (sym (live-entries-none x xs t))

  -- THE LIVE ROWS OF BOTH: the live rows of main and delta in one order are the merged report of main's live rows and
  -- the delta's
  pub live-entries_both : (xs ys : List Row) → Pairs Front xs → Living ys → live-entries (both xs ys) ≡ merge_reports (live-entries xs) (entries ys)
  unfolding filter
  live-entries_both [] ys a s = all ys s
    where
      all : (l : List Row) → Living l → live-entries l ≡ entries l
      all [] h = refl
      all (z ∷ l) h = live-entries_some z l h.0 ∙ ap (λ (r : Report). entry_of text z ∷ r) (all l h.1)
  live-entries_both (x ∷ xs) ys a s = live-entries-from x xs ys a.0 s (λ l h. live-entries_both xs l a.1 h)
