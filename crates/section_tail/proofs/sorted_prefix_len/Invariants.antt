-- The loop of `section_tail::sorted_prefix_len`: the first k rows are in order. Assumes nothing.
use Rattle.table_item.specs.SortedItems.{SortedItems}
use Rattle.section_tail.proofs.sorted_prefix_len.Given as goal

abbrev pub invariant-loop-k : goal.invariant-loop-k
invariant-loop-k l = SortedItems l.text l.words l.index l.used l.at l.k
