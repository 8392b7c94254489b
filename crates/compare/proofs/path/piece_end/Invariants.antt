use Rattle.compare.proofs.SplitLaws.{Cutting}
use Rattle.compare.proofs.path.piece_end.Given as goal

abbrev pub invariant-loop-i : goal.invariant-loop-i
invariant-loop-i l = Cutting l.path l.p l.i
