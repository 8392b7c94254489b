-- The loop of `section_hint::fill_slots`: the rows are in front of the slots, so they stay as they are. Assumes nothing.
use Rattle.std.proofs.Common.{◌+◌}
use Rattle.table.specs.Rows.{UnchangedOutside}
use Rattle.section_hint.proofs.fill_slots.Given as goal

abbrev pub invariant-loop-i : goal.invariant-loop-i
invariant-loop-i l = UnchangedOutside l.initial.words l.words l.from (l.from + l.size)
