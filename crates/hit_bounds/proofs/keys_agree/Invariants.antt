-- What the loop of `hit_bounds::keys_agree` keeps. Assumes nothing.
use Rattle.std.proofs.Common.{ℕ, ◌<◌, ◌≡◌, true}
use Rattle.table_section.specs.Sections.{entry_at}
use Rattle.hit_bounds.proofs.ListLaws.{same_at}
use Rattle.hit_bounds.proofs.keys_agree.Given as goal

abbrev pub invariant-loop-i : goal.invariant-loop-i
invariant-loop-i l = (k : ℕ) → k < l.i → same_at (entry_at l.least l.low l.index) (entry_at l.greatest l.high l.index) k ≡ true
