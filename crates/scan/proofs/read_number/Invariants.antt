-- The invariant: going on from index i gives the answer of the whole.
use Rattle.scan.proofs.NumberLaws.{Scan}
use Rattle.scan.proofs.read_number.Given as goal

abbrev pub invariant-loop-i : goal.invariant-loop-i
invariant-loop-i l = Scan l.max l.s l.i l.value
