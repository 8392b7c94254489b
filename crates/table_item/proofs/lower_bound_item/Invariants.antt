-- The loop of `table_item::lower_bound_item`: the items before lo come before the key, and those from hi on do not. Assumes nothing.
use Rattle.std.proofs.Common.{◌-◌}
use Rattle.table.specs.Places.{SearchBounds}
use Rattle.table_item.specs.Items.{item_of}
use Rattle.table_item.specs.SortedItems.{item_from}
use Rattle.table_item.proofs.SearchLaws.{Before}
use Rattle.table_item.proofs.lower_bound_item.Given as goal

abbrev pub invariant-loop-lo : goal.invariant-loop-lo
invariant-loop-lo l = SearchBounds (Before (item_from l.text l.words l.index l.at) (item_of l.text l.key)) l.n l.lo l.hi

abbrev pub decreases-loop-lo : goal.decreases-loop-lo
decreases-loop-lo l = l.hi - l.lo
