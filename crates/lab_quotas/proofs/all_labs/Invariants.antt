-- What the loop of `lab_quotas::all_labs` keeps. Assumes nothing.
use Rattle.std.proofs.Common.{ℕ, ◌<◌, ◌≡◌, true, get_or}
use Rattle.text_choice.specs.Quotas.{is_lab}
use Rattle.lab_quotas.proofs.all_labs.Given as goal

abbrev pub invariant-loop-lab : goal.invariant-loop-lab
invariant-loop-lab l = (k : ℕ) → k < l.lab-index → is_lab (get_or l.labs k 0) ≡ true
