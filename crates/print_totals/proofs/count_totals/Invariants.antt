-- What `print_totals::count_totals`'s loop keeps, and its measure. Assumes nothing.
use Rattle.std.proofs.Common.{◌-◌}
use Rattle.print_totals.proofs.SumLaws.{Summing}
use Rattle.print_totals.proofs.count_totals.Given as goal

abbrev pub invariant-loop-lo : goal.invariant-loop-lo
invariant-loop-lo l = Summing l.words l.index l.n l.lo l.sums

abbrev pub decreases-loop-lo : goal.decreases-loop-lo
decreases-loop-lo l = l.n - l.lo
