-- What the loop of `bundle::all_fit` keeps. Assumes nothing.
use Rattle.std.proofs.Common.{◌≡◌}
use Rattle.bundle.specs.Places.{fits_from}
use Rattle.bundle.proofs.all_fit.Given as goal

abbrev pub invariant-loop-i : goal.invariant-loop-i
invariant-loop-i l = fits_from l.bundle 0 l.n l.total ≡ fits_from l.bundle l.i l.n l.total
