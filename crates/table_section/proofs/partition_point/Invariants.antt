-- The loop of `table_section::partition_point`: the key is past the entries before lo, and past none from hi on. Assumes nothing.
use Rattle.std.proofs.Common.{◌-◌}
use Rattle.table.specs.Places.{SearchBounds}
use Rattle.table_section.specs.Sections.{key_of, rows_from, PastRow}
use Rattle.table_section.proofs.partition_point.Given as goal

abbrev pub invariant-loop-lo : goal.invariant-loop-lo
invariant-loop-lo l = SearchBounds (PastRow l.equal l.text (rows_from l.words l.index l.at) (key_of l.text l.key)) l.n l.lo l.hi

abbrev pub decreases-loop-lo : goal.decreases-loop-lo
decreases-loop-lo l = l.hi - l.lo
