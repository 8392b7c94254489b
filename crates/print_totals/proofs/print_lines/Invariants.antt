-- What `print_totals::print_lines`'s loop keeps, and its measure. Assumes nothing.
use Rattle.std.proofs.Common.{◌-◌}
use Rattle.print_totals.proofs.LineLaws.{Counting}
use Rattle.print_totals.proofs.print_lines.Given as goal

abbrev pub invariant-loop-lo : goal.invariant-loop-lo
invariant-loop-lo l = Counting l.write l.text l.words l.initial.out l.out l.index l.n l.lo l.at l.sums

abbrev pub decreases-loop-lo : goal.decreases-loop-lo
decreases-loop-lo l = l.n - l.lo
