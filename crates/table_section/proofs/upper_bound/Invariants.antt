-- The loop of `table_section::upper_bound`: the key is past the entries before lo. Assumes nothing.
use Rattle.std.proofs.Common.{true, ◌+◌, ◌-◌, ◌<◌, ◌≤◌}
use Rattle.table.specs.Places.{SearchBounds}
use Rattle.table_section.specs.Sections.{key_of, rows_from, PastRow}
use Rattle.table_section.proofs.upper_bound.Given as goal

abbrev pub invariant-loop-step : goal.invariant-loop-step
invariant-loop-step l =
    SearchBounds (PastRow true l.text (rows_from l.words l.index l.at) (key_of l.text l.key)) l.n l.lo l.n × (0 < l.step) × (l.step ≤ l.n + l.n + 1)

abbrev pub decreases-loop-step : goal.decreases-loop-step
decreases-loop-step l = l.n - l.lo
