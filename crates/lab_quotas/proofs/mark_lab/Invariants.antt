-- What the loop of `lab_quotas::mark_lab` keeps. Assumes nothing.
use Rattle.bundle.specs.Marks.{MarkedAs}
use Rattle.lab_quotas.specs.Labs.{is_of_lab}
use Rattle.lab_quotas.proofs.mark_lab.Given as goal

abbrev pub invariant-loop-i : goal.invariant-loop-i
invariant-loop-i l = MarkedAs (is_of_lab l.labs l.lab) l.i l.chosen
