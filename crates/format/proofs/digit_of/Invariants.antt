use Rattle.format.proofs.PowerLaws.{Taking}
use Rattle.format.proofs.digit_of.Given as goal

abbrev pub invariant-loop-rest : goal.invariant-loop-rest
invariant-loop-rest l = Taking l.v l.power l.rest l.digit

abbrev pub decreases-loop-rest : goal.decreases-loop-rest
decreases-loop-rest l = l.rest
