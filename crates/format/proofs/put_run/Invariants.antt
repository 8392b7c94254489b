-- The invariant: the digits of v above the last k are written, and what is left is below 10^k.
use Rattle.format.proofs.PowerLaws.{Running}
use Rattle.format.proofs.put_run.Given as goal

abbrev pub invariant-loop-k : goal.invariant-loop-k
invariant-loop-k l = Running l.v l.to l.initial.out l.out l.fn.before.at l.rest l.at l.k
