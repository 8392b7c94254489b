use Rattle.compare.proofs.SplitLaws.{Back}
use Rattle.compare.proofs.path.name_start.Given as goal

abbrev pub invariant-loop-i : goal.invariant-loop-i
invariant-loop-i l = Back l.path l.n l.i
