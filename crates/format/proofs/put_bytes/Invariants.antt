-- The loop: the first i bytes are written at the front. Assumes nothing.
use Rattle.format.proofs.PutLaws.{Putting}
use Rattle.format.proofs.put_bytes.Given as goal

abbrev pub invariant-loop-i : goal.invariant-loop-i
invariant-loop-i l = Putting l.s l.fn.out l.out l.i
