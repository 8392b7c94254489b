-- What the loop of `print_bound::all_fit` keeps: the bounds of the rows so far are subtracted from the room. Assumes nothing.
use Rattle.model.specs.TagTable.{tags_of}
use Rattle.print_bound.proofs.RowLaws.{Leaving}
use Rattle.print_bound.proofs.all_fit.Given as goal

abbrev pub invariant-loop-j : goal.invariant-loop-j
invariant-loop-j l = Leaving (tags_of l.tags.table.now) l.words l.room l.j l.left
