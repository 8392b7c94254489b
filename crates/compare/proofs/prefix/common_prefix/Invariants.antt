use Rattle.compare.proofs.PrefixLaws.{Sharing}
use Rattle.compare.proofs.prefix.common_prefix.Given as goal

abbrev pub invariant-loop-i : goal.invariant-loop-i
invariant-loop-i l = Sharing l.a l.b l.n l.i
