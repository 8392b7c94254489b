-- What the loop of `merge_search::gallop` keeps, and what decreases. Assumes nothing.
use Rattle.std.proofs.Common.{◌-◌, ◌≤◌}
use Rattle.merge_search.specs.Search.{Passed}
use Rattle.merge_search.proofs.gallop.Given as goal

abbrev pub invariant-loop-step : goal.invariant-loop-step
invariant-loop-step l = (l.lo ≤ l.n) × Passed l.text l.words l.index l.key l.lo

abbrev pub decreases-loop-step : goal.decreases-loop-step
decreases-loop-step l = l.n - l.lo
