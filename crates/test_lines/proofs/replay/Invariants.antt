-- What the loop of `test_lines::replay` keeps, and what decreases.
use Rattle.std.proofs.Common.{◌-◌, ◌≤◌, length}
use Rattle.test_lines.proofs.replay.Given as goal

abbrev pub invariant-loop-at : goal.invariant-loop-at
invariant-loop-at l = l.at ≤ length l.fn.input

abbrev pub decreases-loop-at : goal.decreases-loop-at
decreases-loop-at l = length l.fn.input - l.at
