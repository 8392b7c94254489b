-- What the loop of `bundle_revisions::is_repeat` keeps. Assumes nothing.
use Rattle.std.proofs.Common.{◌≡◌, false, ℕ, ◌<◌}
use Rattle.text_choice.specs.RevisionBundle.{pair_at, same_pair}
use Rattle.bundle_revisions.proofs.is_repeat.Given as goal

abbrev pub invariant-loop-j : goal.invariant-loop-j
invariant-loop-j l = (k : ℕ) → k < l.j → same_pair (pair_at l.bundle k) (pair_at l.bundle l.i) ≡ false
