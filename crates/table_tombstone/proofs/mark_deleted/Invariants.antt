-- The loop of `table_tombstone::mark_deleted`: the rows from lo up to i were live and are now deleted. Assumes nothing.
use Rattle.table.specs.Store.{Store, row}
use Rattle.table_tombstone.proofs.MarkLaws.{Marking}
use Rattle.table_tombstone.proofs.mark_deleted.Given as goal

abbrev pub invariant-loop-i : goal.invariant-loop-i
invariant-loop-i l = Store l.words l.index l.used × Marking (row l.initial.words l.index) (row l.words l.index) l.used l.lo l.i
