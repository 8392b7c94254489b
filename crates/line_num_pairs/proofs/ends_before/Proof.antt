-- `line_num_pairs::ends_before` meets its contract. Assumes nothing.
use Prim.Native.Nat.{◌-◌, ◌≤◌}
use native.Mathlib.Omega.{arith}
use lib.ListN.{length}
use borrow.Author.Rules.{rules}
use Rattle.table.specs.Places.{SearchBounds}
use Rattle.table.proofs.BinarySearch.{bounds-start, bounds_done}
use Rattle.line_num_pairs.specs.Pairs.{EndsBefore}
use Rattle.line_num_pairs.proofs.WellLaws.{well_inside, ends-up, ends_down}
use Rattle.line_num_pairs.proofs.ends_before.Statement.{statement}
use Rattle.line_num_pairs.proofs.ends_before.Tie as tie

abbrev invariant-loop : tie.invariant-loop-lo
invariant-loop pairs used line lo₀ hi₀ lo hi = (used ≤ length pairs) × SearchBounds (EndsBefore pairs line) used lo hi

abbrev decreases-loop : tie.decreases-loop-lo
decreases-loop pairs used line lo₀ hi₀ lo hi = hi - lo

pub ends_before_spec : {M : Type 1} → statement M
ends_before_spec =
    tie.close
    (tie.spec
    invariant-loop
    decreases-loop
    (λ c. search (well_inside, bounds-start, rules))
    (λ c. omega arith)
    (λ c. omega arith)
    (λ c κs. omega arith)
    (λ c. search rules)
    (λ c. omega arith)
    (λ c. omega arith)
    (λ c. omega arith)
    (λ c. search (ends-up, rules))
    (λ c. omega arith)
    (λ c. search (ends_down, rules))
    (λ c. ((omega arith, omega arith), search (bounds_done, rules))))
