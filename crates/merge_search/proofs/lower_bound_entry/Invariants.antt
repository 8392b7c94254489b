-- What the loop of `merge_search::lower_bound_entry` keeps, and what decreases. Assumes nothing.
use Rattle.std.proofs.Common.{◌-◌}
use Rattle.table.specs.Places.{SearchBounds}
use Rattle.merge_search.specs.Search.{Before}
use Rattle.merge_search.proofs.lower_bound_entry.Given as goal

abbrev pub invariant-loop-lo : goal.invariant-loop-lo
invariant-loop-lo l = SearchBounds (Before l.text l.words l.index l.key) l.n l.lo l.hi

abbrev pub decreases-loop-lo : goal.decreases-loop-lo
decreases-loop-lo l = l.hi - l.lo
