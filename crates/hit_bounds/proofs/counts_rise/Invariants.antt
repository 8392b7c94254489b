-- What the loop of `hit_bounds::counts_rise` keeps. Assumes nothing.
use Rattle.std.proofs.Common.{ℕ, ◌<◌, ◌≡◌, true}
use Rattle.model.specs.Bytes.{Bytes}
use Rattle.table_section.specs.Sections.{entry_at}
use Rattle.hit_bounds.proofs.ListLaws.{rises_at}
use Rattle.hit_bounds.proofs.counts_rise.Given as goal

abbrev pub invariant-loop-i : goal.invariant-loop-i
invariant-loop-i l = (a b : Bytes) (k : ℕ) → k < l.i → rises_at (entry_at a l.low l.index) (entry_at b l.high l.index) k ≡ true
