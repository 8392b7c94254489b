-- What the loop of `bundle_revisions::is_highest` keeps. Assumes nothing.
use Rattle.std.proofs.Common.{◌≡◌, false, ℕ, ◌<◌}
use Rattle.bundle_revisions.specs.Revisions.{is_higher}
use Rattle.bundle_revisions.proofs.is_highest.Given as goal

abbrev pub invariant-loop-j : goal.invariant-loop-j
invariant-loop-j l = (k : ℕ) → k < l.j → is_higher l.bundle l.i k ≡ false
