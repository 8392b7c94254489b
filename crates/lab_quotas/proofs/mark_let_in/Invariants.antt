-- What the loop of `lab_quotas::mark_let_in` keeps. Assumes nothing.
use Rattle.bundle.specs.Marks.{MarkedAs}
use Rattle.lab_quotas.specs.Labs.{is_in_by}
use Rattle.lab_quotas.proofs.mark_let_in.Given as goal

abbrev pub invariant-loop-i : goal.invariant-loop-i
invariant-loop-i l = MarkedAs (is_in_by l.marks l.labs) l.i l.chosen
