-- The rows of a section counted, and totals added. Assumes nothing.
use Prim.Native.Nat.{ℕ, ◌+◌, ◌-◌, ◌≤◌}
use native.Mathlib.Omega.{arith}
use mathlib.Core.Path.{◌≡◌, refl, sym, ap, ◌∙◌}
use mathlib.Core.Bool.{Bool}
use mathlib.Core.List.{List}
use lib.ListN.{length}
use Rattle.table.specs.Places.{tabulate}
use Rattle.table.proofs.TabulateLaws.{length-tabulate}
use Rattle.model.specs.Lists.{filter}
use Rattle.model.specs.Report.{Item}
use Rattle.model.specs.Printing.{hits, is_function, is_branch, is_line}
use Rattle.table_item.specs.SortedItems.{item_from, items_at}
use Rattle.print_rows.specs.Emit.{Numbered, numbered_item}
use Rattle.print_report.specs.declared.KindRanges.{KindRanges}
use Rattle.print_report.specs.Printing.{AreKindRanges}
use Rattle.print_report.proofs.TableLaws.{index-items}
use Rattle.model_totals.specs.declared.Ratio.{Ratio}
use Rattle.model_totals.specs.declared.Totals.{Totals}
use Rattle.model_totals.specs.Totals.{ratio_of, totals_of, add_ratios, add_totals, no_totals}
use Rattle.model_totals.proofs.HitLaws.{hits_at_most}
use Rattle.model_totals.proofs.TotalsLaws.{ratio_path, totals-path}
use Rattle.print_totals.specs.Counting.{RatioAtMost, AtMost, RangeCounted, SectionCounted}

-- ---- numbers

ratios_assoc : (a b c : Ratio) → add_ratios (add_ratios a b) c ≡ add_ratios a (add_ratios b c)
ratios_assoc a b c = ratio_path (omega arith) (omega arith)

pub totals_assoc : (a b c : Totals) → add_totals (add_totals a b) c ≡ add_totals a (add_totals b c)
totals_assoc a b c =
    totals-path (ratios_assoc a.functions b.functions c.functions) (ratios_assoc a.branches b.branches c.branches)
    (ratios_assoc a.lines b.lines c.lines)

ratio_none : (a : Ratio) → add_ratios a no_totals.lines ≡ a
ratio_none a = ratio_path (omega arith) (omega arith)

pub totals-none : (a : Totals) → add_totals a no_totals ≡ a
totals-none a = totals-path (ratio_none a.functions) (ratio_none a.branches) (ratio_none a.lines)

none_ratio : (a : Ratio) → add_ratios no_totals.lines a ≡ a
none_ratio a = ratio_path (omega arith) (omega arith)

pub none-totals : (a : Totals) → add_totals no_totals a ≡ a
none-totals a = totals-path (none_ratio a.functions) (none_ratio a.branches) (none_ratio a.lines)

-- ---- sums that are small

ratios_most : {k m : ℕ} (a b : Ratio) → RatioAtMost k a → RatioAtMost m b → RatioAtMost (k + m) (add_ratios a b)
ratios_most a b α β = record { hit = omega (arith, α.hit, β.hit); found = omega (arith, α.found, β.found) }

pub totals-most : {k m : ℕ} (a b : Totals) → AtMost k a → AtMost m b → AtMost (k + m) (add_totals a b)
totals-most a b α β = record {
  functions = ratios_most a.functions b.functions α.functions β.functions;
  branches = ratios_most a.branches b.branches α.branches β.branches;
  lines = ratios_most a.lines b.lines α.lines β.lines;
}

ratio_wider : {k m : ℕ} {r : Ratio} → k ≤ m → RatioAtMost k r → RatioAtMost m r
ratio_wider h α = record { hit = omega (arith, α.hit); found = omega (arith, α.found) }

pub totals_wider : {k m : ℕ} {t : Totals} → k ≤ m → AtMost k t → AtMost m t
totals_wider h α = record { functions = ratio_wider h α.functions; branches = ratio_wider h α.branches; lines = ratio_wider h α.lines }

pub none-most : AtMost 0 no_totals
none-most = record {
  functions = record { hit = omega arith; found = omega arith };
  branches = record { hit = omega arith; found = omega arith };
  lines = record { hit = omega arith; found = omega arith };
}

-- ---- rows

-- some of the numbered rows
pub numbered-part : {ws : List ℕ} {index n from to : ℕ} → Numbered ws index n → from ≤ to → to ≤ n → Numbered ws (index + from) (to - from)
numbered-part {ws} {index} {n} {from} {to} ν l h = record {
  words = omega (arith, ν.words);
  inside = λ k i. let e : index + from + k ≡ index + (from + k) = omega arith in rw e (ν.inside (from + k) (omega arith));
}

pub range-counted : (text ws : List ℕ) (index from to hit : ℕ) → hit ≡ hits (tabulate (numbered_item text ws (index + from)) (to - from))
    → RangeCounted text ws index from to (record { hit = hit; found = to - from })
range-counted text ws index from to hit e = record { hit = e ∙ ap hits (index-items text ws index from (to - from)); found = refl }

module _ {text ws : List ℕ} {index from to : ℕ} {r : Ratio} (ρ : RangeCounted text ws index from to r) where
  items-length : length (items_at text ws index from (to - from)) ≡ to - from
  items-length = length-tabulate (item_from text ws index from) (to - from)

  -- the items of a kind are those of the range
  pub range_ratio : (kind : Item → Bool) (items : List Item) → filter kind items ≡ items_at text ws index from (to - from) → r ≡ ratio_of kind items
  unfolding ratio_of
  range_ratio kind items e = ratio_path (ρ.hit ∙ ap hits (sym e)) (ρ.found ∙ sym (ap length e ∙ items-length))

  range-most : RatioAtMost (to - from) r
  range-most = record {
    hit = omega (arith, ρ.hit, hits_at_most (items_at text ws index from (to - from)), items-length);
    found = omega (arith, ρ.found);
  }

module _ {text ws : List ℕ} {index n from : ℕ} {runs : KindRanges} {t : Totals} (α : AreKindRanges ws index n from runs) (σ : SectionCounted text ws index from runs t) where
  pub section-most : AtMost (runs.lines - from) t
  section-most = record {
    functions = ratio_wider (omega (arith, α.functions.least, α.branches.least, α.lines.least)) (range-most σ.functions);
    branches = ratio_wider (omega (arith, α.functions.least, α.branches.least, α.lines.least)) (range-most σ.branches);
    lines = ratio_wider (omega (arith, α.functions.least, α.branches.least, α.lines.least)) (range-most σ.lines);
  }

  pub section-totals : (items : List Item) → filter is_function items ≡ items_at text ws index from (runs.functions - from)
      → filter is_branch items ≡ items_at text ws index runs.functions (runs.branches - runs.functions)
      → filter is_line items ≡ items_at text ws index runs.branches (runs.lines - runs.branches) → t ≡ totals_of items
  unfolding totals_of
  section-totals items F B L =
      totals-path (range_ratio σ.functions is_function items F) (range_ratio σ.branches is_branch items B) (range_ratio σ.lines is_line items L)
