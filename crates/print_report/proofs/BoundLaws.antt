-- A table whose entries are within the bound fits the output. Assumes nothing.
use Prim.Native.Nat.{ℕ, ◌≤◌}
use native.Mathlib.Omega.{arith}
use mathlib.Core.Path.{◌≡◌, ap}
use mathlib.Core.Bool.{Bool, true}
use mathlib.Core.List.{List}
use lib.ListN.{length}
use Rattle.table.proofs.TabulateLaws.{length-tabulate}
use Rattle.model.specs.declared.Kind.{Kind}
use Rattle.model.specs.Bytes.{Bytes}
use Rattle.model.specs.Limits.{max_entries}
use Rattle.model.specs.Report.{Report}
use Rattle.model.specs.Printing.{print_report}
use Rattle.table_section.specs.Sections.{entry_at, entries_at}
use Rattle.print_bound.specs.Bound.{report_most, FitsBound}
use Rattle.print_bound.proofs.ReportLaws.{report-max}
use Rattle.print_report.specs.Printing.{printed_from, PrintableTable, RequiredLength}
use Rattle.print_report.proofs.AnswerLaws.{required_none}
use Rattle.print_report.proofs.LoopLaws.{entries-all}

module _ {text ws : List ℕ} {index used n spare : ℕ} (π : PrintableTable text ws index used n spare) where
  pub entries-few : length (entries_at text ws index n) ≤ max_entries
  entries-few = omega (arith, length-tabulate (entry_at text ws index) n, π.few)

module _ (tag : Kind → Bytes) {text ws : List ℕ} {index used n spare : ℕ} (π : PrintableTable text ws index used n spare) where
  pub printed-most : length (printed_from tag text index n ws 0) ≤ report_most tag (entries_at text ws index n)
  printed-most =
      omega (
        arith,
        report-max tag (entries_at text ws index n) (entries-few π),
        ap (λ (r : Report). length (print_report tag r)) (entries-all text ws index n),
      )

-- where they surely fit, nothing is measured
pub fits_required : (tag : Kind → Bytes) (text ws out bytes : List ℕ) (index n : ℕ) (roomy : Bool) → roomy ≡ true → FitsBound tag ws index n (length out) roomy
    → length bytes ≤ report_most tag (entries_at text ws index n) → RequiredLength out out bytes 0
fits_required tag text ws out bytes index n roomy e ρ h =
    let fits : FitsBound tag ws index n (length out) true = rw e at ρ in
    required_none (omega (arith, fits text))
