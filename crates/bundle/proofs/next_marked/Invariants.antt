-- What the loop of `bundle::next_marked` keeps. Assumes nothing.
use Rattle.bundle.proofs.BundleLaws.{Passed}
use Rattle.bundle.proofs.next_marked.Given as goal

abbrev pub invariant-loop-at : goal.invariant-loop-at
invariant-loop-at l = Passed l.marks l.i l.at
