-- The loop that sums the sections of a table and prints nothing. Assumes nothing.
use Prim.Native.Nat.{ℕ, ◌+◌, ◌≤◌, ◌<◌}
use native.Mathlib.Omega.{arith}
use mathlib.Core.Path.{◌≡◌, refl, sym, ap, ◌∙◌}
use mathlib.Core.Bool.{false}
use mathlib.Core.List.{List, []}
use Rattle.table.specs.Store.{row}
use Rattle.model.specs.Limits.{max_entries}
use Rattle.model.specs.Report.{Report}
use Rattle.model.specs.Printing.{sections}
use Rattle.table_item.specs.Items.{kind_of}
use Rattle.table_section.specs.Sections.{entries_at}
use Rattle.section.specs.Table.{Table}
use Rattle.print_report.specs.declared.KindRanges.{KindRanges}
use Rattle.print_report.specs.Printing.{AreKindRanges}
use Rattle.print_report.proofs.KindLaws.{first-header, next-header}
use Rattle.print_report.proofs.LoopLaws.{entries-all, entries_none}
use Rattle.model_totals.specs.declared.Totals.{Totals}
use Rattle.model_totals.specs.Totals.{add_totals, no_totals, sum_totals, section_totals, last_totals}
use Rattle.print_totals.specs.Counting.{AtMost, SectionCounted, totals_from}
use Rattle.print_totals.proofs.CountLaws.{section-most, totals_assoc, totals-none, none-totals, none-most, totals-most, totals_wider}
use Rattle.print_totals.proofs.LineLaws.{Here, summed}

-- the sections before position lo are summed, whatever the text
pub record Summing (ws : List ℕ) (index n lo : ℕ) (sums : Totals) : Type 0 where
  pub so_far : (text : List ℕ) → Table text ws index n n → add_totals sums (totals_from text ws index n lo) ≡ totals_from text ws index n 0
  pub small : AtMost lo sums
  pub most : lo ≤ n
  pub header : lo < n → kind_of (row ws index lo) ≡ 0

module _ {ws : List ℕ} {index n : ℕ} (few : n ≤ max_entries) where
  pub summing_start : {text : List ℕ} → Table text ws index n n → Summing ws index n 0 no_totals
  summing_start τ = record {
    so_far = λ text τ'. none-totals (totals_from text ws index n 0);
    small = none-most;
    most = omega arith;
    header = first-header τ;
  }

  module _ {lo : ℕ} {sums : Totals} (σ : Summing ws index n lo sums) where
    module _ (more : lo < n) {runs : KindRanges} {t : Totals} (α : AreKindRanges ws index n (lo + 1) runs)
        (counted : (text : List ℕ) → SectionCounted text ws index (lo + 1) runs t) where
      here : (text : List ℕ) → Table text ws index n n → Here false text ws [] index n lo 0 (row ws index lo) runs t
      here text τ = record {
        table = τ;
        few = few;
        more = more;
        kind = σ.header more;
        is = refl;
        runs = α;
        counted = counted text;
        room = tt;
        small = omega arith;
        place = omega arith;
      }

      small-next : AtMost runs.lines (add_totals sums t)
      small-next =
          totals_wider (omega (arith, α.functions.least, α.branches.least, α.lines.least))
          (totals-most sums t σ.small (section-most α (counted [])))

      pub sum-small : AtMost max_entries (add_totals sums t)
      sum-small = totals_wider (omega (arith, α.lines.most)) small-next

      pub summing_next : {text : List ℕ} → Table text ws index n n → {next : Totals} → next ≡ add_totals sums t → Summing ws index n runs.lines next
      summing_next {text} τ₀ {next} e = rw e (record {
        so_far = λ other τ. totals_assoc sums t (totals_from other ws index n runs.lines) ∙ ap (add_totals sums) (sym (summed (here other τ))) ∙ σ.so_far other τ;
        small = small-next;
        most = α.lines.most;
        header = next-header τ₀ (omega arith) α.functions α.branches α.lines;
      })

    pub summing_done : n ≤ lo → (text : List ℕ) → Table text ws index n n → sums ≡ last_totals (entries_at text ws index n)
    unfolding last_totals section_totals sum_totals sections
    summing_done done text τ =
        sym (totals-none sums) ∙ ap (λ (report : Report). add_totals sums (last_totals report)) (sym (entries_none text ws index n lo done)) ∙ σ.so_far text τ
        ∙ ap last_totals (entries-all text ws index n)
