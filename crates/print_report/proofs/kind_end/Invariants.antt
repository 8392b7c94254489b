-- What the loop of `print_report::kind_end` keeps. Assumes nothing.
use Rattle.print_report.proofs.KindLaws.{Running}
use Rattle.print_report.proofs.kind_end.Given as goal

abbrev pub invariant-loop-at : goal.invariant-loop-at
invariant-loop-at l = Running l.words l.index l.n l.from l.kind l.at
