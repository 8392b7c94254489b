-- What the loop of `print_rows::count_hits` keeps. Assumes nothing.
use Rattle.std.proofs.Common.{◌≡◌, List, ℕ}
use Rattle.table.specs.Places.{tabulate}
use Rattle.model.specs.Printing.{hits}
use Rattle.print_rows.specs.Emit.{numbered_item}
use Rattle.print_rows.proofs.count_hits.Given as goal

abbrev pub invariant-loop-i : goal.invariant-loop-i
invariant-loop-i l = (text : List ℕ) → l.hit ≡ hits (tabulate (numbered_item text l.words l.numbers) l.i)
