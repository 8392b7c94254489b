-- The loop of `section_hint::put_hint`: until a slot is found, nothing is written. Assumes nothing.
use Rattle.std.proofs.Common.{◌<◌, ◌≡◌}
use Rattle.section_hint.proofs.put_hint.Given as goal

abbrev pub invariant-loop-probe : goal.invariant-loop-probe
invariant-loop-probe l = (l.slot < l.size) × (l.words ≡ l.initial.words)
