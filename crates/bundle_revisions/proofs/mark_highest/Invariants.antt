-- What the loop of `bundle_revisions::mark_highest` keeps. Assumes nothing.
use Rattle.text_choice.specs.RevisionBundle.{is_highest}
use Rattle.bundle.specs.Marks.{MarkedAs}
use Rattle.bundle_revisions.proofs.mark_highest.Given as goal

abbrev pub invariant-loop-i : goal.invariant-loop-i
invariant-loop-i l = MarkedAs (is_highest l.bundle) l.i l.marks
