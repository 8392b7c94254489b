-- The loop of `section_tail::upsert_all`: the first i rows are upserted. Assumes nothing.
use Rattle.section_tail.proofs.UpsertLaws.{Upserting}
use Rattle.section_tail.proofs.upsert_all.Given as goal

abbrev pub invariant-loop-i : goal.invariant-loop-i
invariant-loop-i l = Upserting l.text l.initial.words l.words l.index l.used l.spare l.at l.initial.sizes.calls l.sizes l.i
