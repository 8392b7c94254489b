-- The loop of `section_hint::find_slot` reads inside the slots. Assumes nothing.
use Rattle.std.proofs.Common.{◌<◌}
use Rattle.section_hint.proofs.find_slot.Given as goal

abbrev pub invariant-loop-probe : goal.invariant-loop-probe
invariant-loop-probe l = l.slot < l.size
