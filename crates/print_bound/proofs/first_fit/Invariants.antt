-- What the loop of `print_bound::first_fit` keeps: the bounds of the first rows are subtracted from the room. Assumes nothing.
use Rattle.model.specs.TagTable.{tags_of}
use Rattle.print_bound.proofs.RowLaws.{LeavingFirst}
use Rattle.print_bound.proofs.first_fit.Given as goal

abbrev pub invariant-loop-i : goal.invariant-loop-i
invariant-loop-i l = LeavingFirst (tags_of l.tags.table.now) l.words l.index l.room l.i l.left
