-- What the loop of `filter::skip_starts` keeps. Assumes nothing.
use Rattle.model.specs.Bytes.{Bytes}
use Rattle.filter.proofs.BoundLaws.{Skipped}
use Rattle.filter.proofs.skip_starts.Given as goal

abbrev pub invariant-loop-i : goal.invariant-loop-i
invariant-loop-i l = (text : Bytes) → Skipped l.words l.next l.n l.start text l.i
