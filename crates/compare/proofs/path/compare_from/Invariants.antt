use Prim.Native.Nat.{◌+◌, ◌-◌}
use lib.ListN.{length}
use Rattle.compare.proofs.PathLaws.{Level}
use Rattle.compare.proofs.path.compare_from.Given as goal

abbrev pub invariant-loop-x : goal.invariant-loop-x
invariant-loop-x l = Level l.a l.b l.from l.p l.q

abbrev pub decreases-loop-x : goal.decreases-loop-x
decreases-loop-x l = length l.a + 1 - l.p
