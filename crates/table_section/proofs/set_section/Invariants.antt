-- The loop of `table_section::set_section`: the first i rows have the section's names. Assumes nothing.
use Rattle.table_section.specs.Splice.{SectionSet}
use Rattle.table_section.proofs.set_section.Given as goal

abbrev pub invariant-loop-i : goal.invariant-loop-i
invariant-loop-i l = SectionSet l.initial.words l.words l.index l.used l.from l.i l.key
