-- What comes of a row is no longer than its words say, and rows one after the other. Assumes nothing.
use Prim.Native.Nat.{ℕ, zero, suc, ◌+◌, ◌-◌, ◌/◌, ◌%◌, ◌≤◌, ◌<◌, min}
use native.Mathlib.Omega.{arith}
use native.Mathlib.Nat.{zero-add}
use mathlib.Core.Path.{◌≡◌, refl, sym, ap, ◌∙◌}
use mathlib.Core.Logic.{◌≢◌}
use mathlib.Core.Bool.{Bool, true}
use mathlib.Core.List.{List, [], ◌∷◌, ◌++◌}
use mathlib.Core.Option.{Option, none, some}
use lib.ListN.{length, drop, length-take}
use Rattle.table.specs.declared.Row.{Row}
use Rattle.table.specs.Places.{tabulate}
use Rattle.table.specs.Rows.{row_at}
use Rattle.table.specs.Store.{Store, number, row}
use Rattle.table.proofs.TabulateLaws.{tabulate-split}
use Rattle.model.specs.declared.Kind.{Kind}
use Rattle.model.specs.Bytes.{Bytes}
use Rattle.model.specs.Limits.{u64_max}
use Rattle.model.specs.Number.{decimal}
use Rattle.model.specs.Report.{Extent, updated, Item, Entry, Report, section_item, function_item, branch_item, line_item}
use Rattle.format.proofs.DecimalLaws.{decimal-most}
use Rattle.table_item.specs.Items.{part, extent_in, function_in, item_of}
use Rattle.table_section.specs.Sections.{test_of, path_of, entry_of, entry_at}
use Rattle.print_rows.specs.Emit.{end_len}
use Rattle.print_rows.proofs.LentLaws.{item}
use Rattle.print_bound.specs.Bound.{item_lines, WidthsOf, section_most, entry_most, report_most, FitsBound}
use Rattle.print_bound.specs.declared.Widths.{Widths}
use Rattle.print_bound.proofs.LengthLaws.{item-length}
use Rattle.print_bound.proofs.SumLaws.{total, total-next, total_some}

-- ---- a row

part-max : (text : Bytes) (start len : ℕ) → length (part text start len) ≤ len
part-max text start len = omega (arith, length-take len (drop start text))

module _ (tag : Kind → Bytes) (text : Bytes) (r : Row) where
  -- by kind k and what is given, m
  abbrev max : ℕ → ℕ → ℕ
  max k m = section_most tag (test_of text r) (item text r k m) + length (item_lines tag (item text r k m))

  pub line-max : (w : Widths) → WidthsOf tag w → (a b n : ℕ) → 2 < r.tag / 2 → length (decimal r.k1) ≤ a → length (decimal r.count) ≤ b → n ≡ min (r.k3 + (w.line + a + b)) u64_max
      → min (entry_most tag (entry_of text r)) u64_max ≤ n
  unfolding item_of section_most
  line-max w widths a b n h p q e = omega (arith, go (r.tag / 2) (r.tag % 2) h)
    where
      go : (k m : ℕ) → 2 < k → max k m ≤ r.k3 + (w.line + a + b)
      go zero m l = absurd (omega arith)
      go (suc zero) m l = absurd (omega arith)
      go (suc (suc zero)) m l = absurd (omega arith)
      go (suc (suc (suc k))) zero l = omega (arith, widths.line, item-length tag (line_item r.k1 r.count none))
      go (suc (suc (suc k))) (suc m) l =
          omega (arith, widths.line, item-length tag (line_item r.k1 r.count (some (part text r.k2 r.k3))), part-max text r.k2 r.k3)

  pub branch-max : (w : Widths) → WidthsOf tag w → (a b c d n : ℕ) → r.tag / 2 ≡ 2 → length (decimal r.k1) ≤ a → length (decimal r.k2) ≤ b → length (decimal r.k3) ≤ c
      → length (decimal r.count) ≤ d → 1 ≤ d → n ≡ w.branch + (a + b + c) + d → min (entry_most tag (entry_of text r)) u64_max ≤ n
  unfolding item_of section_most
  branch-max w widths a b c d n h p q s u i e = omega (arith, go (r.tag / 2) (r.tag % 2) h)
    where
      go : (k m : ℕ) → k ≡ 2 → max k m ≤ w.branch + (a + b + c) + d
      go zero m l = absurd (omega arith)
      go (suc zero) m l = absurd (omega arith)
      go (suc (suc zero)) zero l = omega (arith, widths.branch, item-length tag (branch_item r.k1 r.k2 r.k3 none))
      go (suc (suc zero)) (suc m) l = omega (arith, widths.branch, item-length tag (branch_item r.k1 r.k2 r.k3 (some r.count)))
      go (suc (suc (suc k))) m l = absurd (omega arith)

  pub function-max : (w : Widths) → WidthsOf tag w → (a n : ℕ) → r.tag / 2 ≡ 1 → a ≡ min (r.k2 + r.k2) u64_max → n ≡ min (a + w.function) u64_max → min (entry_most tag (entry_of text r)) u64_max ≤ n
  unfolding item_of section_most
  function-max w widths a n h e q = omega (arith, go (r.tag / 2) (r.tag % 2) h)
    where
      function : Option Extent → Item
      function x = function_item (updated (function_in text r) x r.count)

      end-max : (end : Option ℕ) → end_len end ≤ 21
      end-max none = omega arith
      end-max (some end) = omega (arith, decimal-most end)

      -- FN and FNDA: two names, three numbers, and what stands between them
      by-extent : (x : Option Extent) → length (item_lines tag (function x)) ≤ r.k2 + r.k2 + w.function
      by-extent none = omega (arith, widths.function, item-length tag (function none), part-max text r.k1 r.k2, decimal-most r.count)
      by-extent (some x) =
          omega (
            arith,
            widths.function,
            item-length tag (function (some x)),
            part-max text r.k1 r.k2,
            decimal-most x.start,
            end-max x.end,
            decimal-most r.count,
          )

      go : (k m : ℕ) → k ≡ 1 → max k m ≤ r.k2 + r.k2 + w.function
      go zero m l = absurd (omega arith)
      go (suc zero) m l = omega (arith, by-extent (extent_in m r.k3))
      go (suc (suc k)) m l = absurd (omega arith)

  pub section-row-max : (w : Widths) → WidthsOf tag w → (a n : ℕ) → r.tag / 2 ≤ 2 → r.tag / 2 ≢ 2 → r.tag / 2 ≢ 1 → a ≡ min (r.test_len + r.path_len) u64_max
      → n ≡ min (a + w.section) u64_max → min (entry_most tag (entry_of text r)) u64_max ≤ n
  unfolding item_of section_most
  section-row-max w widths a n h b f e q = omega (arith, go (r.tag / 2) (r.tag % 2) (omega arith))
    where
      go : (k m : ℕ) → k ≡ 0 → max k m ≤ r.test_len + r.path_len + w.section
      go zero m l =
          omega (
            arith,
            widths.section,
            item-length tag (section_item (path_of text r)),
            part-max text r.test r.test_len,
            part-max text r.path r.path_len,
          )
      go (suc k) m l = absurd (omega arith)

-- ---- rows one after the other

max-append : (tag : Kind → Bytes) (es fs : Report) → report_most tag (es ++ fs) ≡ report_most tag es + report_most tag fs
unfolding report_most
max-append tag [] fs = sym (zero-add (report_most tag fs))
max-append tag (e ∷ es) fs = omega (arith, max-append tag es fs)

max-next : (tag : Kind → Bytes) (f : ℕ → Entry) (i : ℕ) → report_most tag (tabulate f (i + 1)) ≡ report_most tag (tabulate f i) + entry_most tag (f i)
unfolding tabulate report_most
max-next tag f i =
    let z : i + 0 ≡ i = omega arith in
    let one : report_most tag (tabulate (λ k. f (i + k)) 1) ≡ entry_most tag (f i) = rw z (omega arith) in
    ap (report_most tag) (tabulate-split f i 1) ∙ max-append tag (tabulate f i) (tabulate (λ k. f (i + k)) 1) ∙ ap (λ (n : ℕ). report_most tag (tabulate f i) + n) one

-- ---- the bound of so many rows

abbrev row_most : (tag : Kind → Bytes) → Bytes → List ℕ → ℕ → ℕ
row_most tag text ws j = entry_most tag (entry_of text (row_at ws j))

max-total : (tag : Kind → Bytes) (f : ℕ → Entry) (n : ℕ) → report_most tag (tabulate f n) ≡ total (λ k. entry_most tag (f k)) n
unfolding total tabulate report_most
max-total tag f zero = refl
max-total tag f (suc n) =
    ap (λ (k : ℕ). report_most tag (tabulate f k)) (let z : suc n ≡ n + 1 = omega arith in z)
    ∙ max-next tag f n
    ∙ ap (λ (k : ℕ). k + entry_most tag (f n)) (max-total tag f n)

-- of `room`, the first j rows in memory leave so much
pub record Leaving (tag : Kind → Bytes) (ws : List ℕ) (room j left : ℕ) : Type 0 where
  pub bytes : (text : Bytes) → total (row_most tag text ws) j + left ≤ room

module _ {tag : Kind → Bytes} {ws : List ℕ} {room : ℕ} where
  pub leaving_start : Leaving tag ws room 0 room
  unfolding total
  leaving_start = record { bytes = λ text. omega arith }

  module _ {j left : ℕ} (ρ : Leaving tag ws room j left) where
    pub leaving_next : {r : Row} {n : ℕ} → room < u64_max → r ≡ row_at ws j → (w : Widths) → WidthsOf tag w → ((other : Kind → Bytes) → WidthsOf other w → (text : Bytes) → min (entry_most other (entry_of text r)) u64_max ≤ n) → n ≤ left
        → Leaving tag ws room (j + 1) (left - n)
    leaving_next {r} {n} s e w widths h l = record {
      bytes = λ text. omega (arith, ρ.bytes text, total-next (row_most tag text ws) j, rw e at (h tag widths text));
    }

    -- the rows of the index are some of them, each once
    pub leaving_end : {index used : ℕ} → Store ws index used → used ≤ j → j ≤ used → FitsBound tag ws index used room true
    unfolding row
    leaving_end {index} {used} σ h l text =
        omega (
          arith,
          rw (let z : j ≡ used = omega arith in z) at (ρ.bytes text),
          max-total tag (entry_at text ws index) used,
          total_some (row_most tag text ws) (number ws index) used used (λ i k. σ.numbers.below i (omega arith)) (λ i k a b e. σ.numbers.once i k (omega arith) (omega arith) e),
        )

-- of `room`, the first i rows in index order leave so much
pub record LeavingFirst (tag : Kind → Bytes) (ws : List ℕ) (index room i left : ℕ) : Type 0 where
  pub bytes : (text : Bytes) → report_most tag (tabulate (entry_at text ws index) i) + left ≤ room

module _ {tag : Kind → Bytes} {ws : List ℕ} {index room : ℕ} where
  pub first-start : LeavingFirst tag ws index room 0 room
  unfolding tabulate report_most
  first-start = record { bytes = λ text. omega arith }

  module _ {i left : ℕ} (ρ : LeavingFirst tag ws index room i left) where
    pub first_next : {r : Row} {n : ℕ} → room < u64_max → r ≡ row ws index i → (w : Widths) → WidthsOf tag w → ((other : Kind → Bytes) → WidthsOf other w → (text : Bytes) → min (entry_most other (entry_of text r)) u64_max ≤ n) → n ≤ left
        → LeavingFirst tag ws index room (i + 1) (left - n)
    first_next {r} {n} s e w widths h l = record {
      bytes = λ text. omega (arith, ρ.bytes text, max-next tag (entry_at text ws index) i, rw e at (h tag widths text));
    }

    pub first-end : {n : ℕ} → n ≤ i → i ≤ n → FitsBound tag ws index n room true
    first-end {n} h l text = omega (arith, rw (let z : i ≡ n = omega arith in z) at (ρ.bytes text))

-- where all used rows are entries
pub fits_all : (tag : Kind → Bytes) (ws : List ℕ) (index used n room : ℕ) (r : Bool) → n ≡ used → FitsBound tag ws index used room r → FitsBound tag ws index n room r
fits_all tag ws index used n room r e h = rw e h
