-- `section_tail::upsert_all` meets its contract. Assumes nothing.
use Rattle.std.proofs.Common.{arith}
use Rattle.section_tail.proofs.UpsertLaws.{upserting_sorted, upserting_fits, upserting_next}
use Rattle.section_tail.proofs.upsert_all.Goals as goal

pub loop-i-init : goal.loop-i-init
loop-i-init c = upserting_sorted c.requires.sorted_items.0

pub upsert_next-sizes-requires-clause-row_fits : goal.upsert_next-sizes-requires-clause-row_fits
upsert_next-sizes-requires-clause-row_fits c =
    upserting_fits c.loop-i.invariant (omega (arith, c.requires.sorted_items.2)) (omega arith) c.requires.used_bound.2

pub loop-i-preserved : goal.loop-i-preserved
loop-i-preserved c =
    upserting_next c.loop-i.invariant (omega (arith, c.requires.sorted_items.2)) c.upsert_next-sizes.ensures c.upsert_next-sizes.auto.words
