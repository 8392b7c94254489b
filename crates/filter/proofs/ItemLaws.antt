-- What a row's words say of its item: its start, its line, and where the function before it ends. Assumes nothing.
use Rattle.std.specs.Prelude.{Option as LentOption, Some, None}
use Prim.Native.Nat.{ℕ, zero, suc, ◌+◌, ◌*◌, ◌-◌, ◌/◌, ◌%◌, ◌≤◌, ◌<◌}
use native.Mathlib.Omega.{arith}
use native.Mathlib.Nat.{add-zero}
use mathlib.Core.Path.{◌≡◌, refl, sym, ap, ap₂, ◌∙◌}
use mathlib.Core.Logic.{◌≢◌}
use mathlib.Core.Bool.{Bool}
use mathlib.Core.List.{List}
use mathlib.Core.Option.{Option, none, some}
use lib.Dec.{ltb}
use lib.ListN.{length}
use borrow.Author.Tests.{lt-ltb}
use mir.Val as Val
use mir.Syntax.{w32}
use Rattle.table.specs.declared.Row.{Row}
use Rattle.table.specs.Places.{tabulate}
use Rattle.table.specs.Rows.{row_words, word, row_at}
use Rattle.model.specs.Bytes.{Bytes}
use Rattle.model.specs.Limits.{u32_max}
use Rattle.model.specs.declared.Bound.{Bound}
use Rattle.model.specs.Parts.{given_in}
use Rattle.model.specs.Report.{Extent, extent_of, given_start, end_of}
use Rattle.model.specs.declared.Range.{Range}
use Rattle.model.specs.Ranges.{holds}
use Rattle.model.specs.Filter.{line_of, is_held, start_line, has_start, bounding, end_before, end_or, end_line}
use Rattle.model.specs.Valid.{ItemFits}
use Rattle.table_item.specs.Items.{start_key, item_of}
use Rattle.print_sort.specs.Sorting.{items_by}
use Rattle.print_rows.specs.Emit.{Printable}
use Rattle.print_rows.proofs.LentLaws.{item}
use Rattle.print_rows.proofs.LentLaws.{start_fits as line-start-fits}
use Rattle.print_rows.proofs.PassLaws.{part-printable}
use Rattle.filter.specs.declared.Rule.{Rule}
use Rattle.filter.specs.declared.Rule.TheVariants.{Started, Held, Until}
use Rattle.filter.specs.Keeping.{keeps}

module _ (text : Bytes) (row : Row) where
  -- ---- starts

  abbrev key : ℕ
  key = start_key (extent_of (item_of text row))

  -- what a start line is compared by says whether there is one, and which
  by_key : (x : Option Extent) → (start_key x ≡ 0 → given_start x ≡ none) × ((start : ℕ) → start_key x ≡ suc start → given_start x ≡ some start)
  by_key none = (λ e. refl, λ start e. absurd (omega arith))
  by_key (some x) = (λ e. absurd (omega arith), λ start e. let q : x.start ≡ start = omega arith in ap (λ (s : ℕ). some s) q)

  pub start-given : (k : ℕ) → k ≡ key → ltb 0 k ≡ has_start (item_of text row)
  unfolding has_start
  start-given zero e = sym (rw ((by_key (extent_of (item_of text row))).0 (sym e), has_start))
  start-given (suc k) e = lt-ltb 0 (suc k) (omega arith) ∙ sym (rw ((by_key (extent_of (item_of text row))).1 k (sym e), has_start))

  pub start_none : (k : ℕ) → k ≡ key → k ≡ 0 → 0 ≡ start_line (item_of text row)
  unfolding start_line
  start_none k e z = sym (rw ((by_key (extent_of (item_of text row))).0 (sym e ∙ z), start_line))

  pub start_is : (k : ℕ) → k ≡ key → k ≢ 0 → k - 1 ≡ start_line (item_of text row)
  unfolding start_line
  start_is zero e n = absurd (n refl)
  start_is (suc k) e n = let z : suc k - 1 ≡ k = omega arith in z ∙ sym (rw ((by_key (extent_of (item_of text row))).1 k (sym e), start_line))

  pub start_fits : (k : ℕ) → k ≡ key → k ≢ 0 → ItemFits (item_of text row) → Val.Fits w32 (k - 1)
  start_fits zero e n f = absurd (n refl)
  start_fits (suc k) e n f = let g = (line-start-fits text row k (sym e) f).fits in record { fits = omega (arith, g) }

  -- ---- lines

  pub line-none : row.tag < 4 → 0 ≡ line_of (item_of text row)
  unfolding item_of line_of
  line-none h = go (row.tag / 2) (row.tag % 2) (omega arith)
    where
      go : (k m : ℕ) → k < 2 → 0 ≡ line_of (item text row k m)
      go zero m f = refl
      go (suc zero) m f = refl
      go (suc (suc k)) m f = absurd (omega arith)

  pub line_is : 4 ≤ row.tag → row.k1 ≡ line_of (item_of text row)
  unfolding item_of line_of
  line_is h = go (row.tag / 2) (row.tag % 2) (omega arith)
    where
      go : (k m : ℕ) → 2 ≤ k → row.k1 ≡ line_of (item text row k m)
      go zero m f = absurd (omega arith)
      go (suc zero) m f = absurd (omega arith)
      go (suc (suc zero)) m f = refl
      go (suc (suc (suc k))) m f = refl

  pub line-fits : 4 ≤ row.tag → ItemFits (item_of text row) → Val.Fits w32 row.k1
  unfolding item_of
  line-fits h f = record { fits = omega (arith, go (row.tag / 2) (row.tag % 2) (omega arith) f) }
    where
      go : (k m : ℕ) → 2 ≤ k → ItemFits (item text row k m) → row.k1 ≤ u32_max
      go zero m f i = absurd (omega arith)
      go (suc zero) m f i = absurd (omega arith)
      go (suc (suc zero)) m f i = i.0
      go (suc (suc (suc k))) m f i = i.0

-- ---- ends

module _ (text ws : List ℕ) (next n : ℕ) where
  pub end-last : n ≡ 0 → u32_max ≡ end_before (items_by text ws next n)
  unfolding tabulate end_before
  end-last e = rw e

  pub end-first : n ≢ 0 → end_before (items_by text ws next n) ≡ start_line (item_of text (row_at ws (word ws next))) - 1
  unfolding tabulate end_before
  end-first e = go n refl
    where
      go : (m : ℕ) → n ≡ m → end_before (items_by text ws next m) ≡ start_line (item_of text (row_at ws (word ws next))) - 1
      go zero z = absurd (e z)
      go (suc m) z = ap (λ (j : ℕ). start_line (item_of text (row_at ws (word ws j))) - 1) (add-zero next)

  module _ (r : Row) (is : r ≡ row_at ws (word ws next)) (s : ℕ) (starts : s ≡ start_line (item_of text r)) (some : n ≢ 0) where
    start-next : s ≡ start_line (item_of text (row_at ws (word ws next)))
    start-next = starts ∙ ap (λ (q : Row). start_line (item_of text q)) is

    pub end-zero : s ≡ 0 → 0 ≡ end_before (items_by text ws next n)
    end-zero z = sym (end-first some ∙ ap (λ (k : ℕ). k - 1) (sym start-next ∙ z))

    pub end-one : s - 1 ≡ end_before (items_by text ws next n)
    end-one = sym (end-first some ∙ ap (λ (k : ℕ). k - 1) (sym start-next))

-- a function's own end goes first
module _ (row : Row) (reckoned : ℕ) (end : LentOption ℕ) (own : (text : Bytes) → given_in end ≡ end_of (item_of text row)) where
  pub end_own : (line : ℕ) → end ≡ Some line → (text : Bytes) → line ≡ end_or reckoned (end_of (item_of text row))
  unfolding given_in
  end_own line e text = ap (end_or reckoned) (sym (ap given_in e) ∙ own text)

  pub end_reckoned : end ≡ None → (text : Bytes) → reckoned ≡ end_or reckoned (end_of (item_of text row))
  unfolding given_in
  end_reckoned e text = ap (end_or reckoned) (sym (ap given_in e) ∙ own text)

-- ---- the first of some rows

module _ {text ws : List ℕ} {at n : ℕ} (π : Printable text ws at n) (some : 0 < n) where
  pub first-inside : word ws at * row_words + row_words ≤ length ws
  first-inside = let e : at + 0 ≡ at = add-zero at in rw e at (π.numbered.inside 0 some)

  pub first_fits : (r : Row) → r ≡ row_at ws (word ws at) → ItemFits (item_of text r)
  first_fits r is = let e : at + 0 ≡ at = add-zero at in rw is (rw e at (π.fits 0 some))

  pub next-printable : Printable text ws (at + 1) (n - 1)
  next-printable = part-printable π 1 (n - 1) (omega arith)

-- whether it stays, by each rule
module _ (ranges : List Range) (ws : List ℕ) (at n : ℕ) (rule : Rule) (row : Row) (is : row ≡ row_at ws (word ws at)) (t : Bool) where
  abbrev Stays : Type 0
  Stays = (text : Bytes) → t ≡ keeps rule ranges (item_of text (row_at ws (word ws at))) (items_by text ws (at + 1) (n - 1))

  pub stays_started : rule ≡ Started → ((text : Bytes) → t ≡ has_start (item_of text row)) → Stays
  stays_started e h text = rw (e, ← is) (h text)

  pub stays-held : rule ≡ Held → (line : ℕ) → ((text : Bytes) → line ≡ line_of (item_of text row)) → t ≡ holds ranges line line → Stays
  unfolding is_held
  stays-held e line h q text = rw (e, ← is) (q ∙ ap (λ (l : ℕ). holds ranges l l) (h text))

  pub stays_until : (bound : Bound) → rule ≡ Until bound → (start reckoned end : ℕ) → ((text : Bytes) → start ≡ start_line (item_of text row))
      → ((text : Bytes) → reckoned ≡ end_before (bounding bound start (items_by text ws (at + 1) (n - 1))))
      → ((text : Bytes) → end ≡ end_or reckoned (end_of (item_of text row))) → t ≡ holds ranges start end → Stays
  unfolding end_line
  stays_until bound e start reckoned end h i o q text =
      rw (e, ← is)
      (q
      ∙ ap₂ (holds ranges) (h text)
      (o text
      ∙ ap (λ (k : ℕ). end_or k (end_of (item_of text row)))
      (i text ∙ ap (λ (s : ℕ). end_before (bounding bound s (items_by text ws (at + 1) (n - 1)))) (h text))))
