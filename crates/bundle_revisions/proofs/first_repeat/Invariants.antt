-- What the loop of `bundle_revisions::first_repeat` keeps. Assumes nothing.
use Rattle.std.proofs.Common.{◌≡◌, false, ℕ, ◌<◌}
use Rattle.text_choice.specs.RevisionBundle.{is_repeat}
use Rattle.bundle_revisions.proofs.first_repeat.Given as goal

abbrev pub invariant-loop-i : goal.invariant-loop-i
invariant-loop-i l = (k : ℕ) → k < l.i → is_repeat l.bundle k ≡ false
