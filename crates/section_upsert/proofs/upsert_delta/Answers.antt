-- `section_upsert::upsert_delta` meets its contract: the search gives the place, and one law answers each way out. Assumes nothing.
use Rattle.std.proofs.Common.{◌+◌, arith}
use Rattle.table_item.proofs.SearchLaws.{placed_as}
use Rattle.section_upsert.proofs.MergeLaws.{parts-rising}
use Rattle.section_upsert.proofs.InsertLaws.{replacing_as}
use Rattle.section_upsert.proofs.UpsertLaws.{upserted_delta, overflow_delta, delta_full, upserted_inserted, upserted_interleaved}
use Rattle.section_upsert.proofs.upsert_delta.Goals as goal

pub returns-then-used-at : goal.returns-then-used-at
returns-then-used-at c =
    let gap = placed_as c.in-Err.is c.find_item.ensures in
    delta_full _ _ _ _ _ _ _ _ _ _ c.requires.main_delta.0 c.args.i c.requires.used_bound.2.is _ gap.within gap.is (omega arith)

pub returns-then-p-lt-DELTA_ITEMS : goal.returns-then-p-lt-DELTA_ITEMS
returns-then-p-lt-DELTA_ITEMS c =
    let gap = placed_as c.in-Err.is c.find_item.ensures in
    upserted_inserted _ _ _ _ _ _ _ _ _ _ c.requires.main_delta.0 c.args.i c.requires.used_bound.2.is _ gap.within gap.is _ (omega arith) c.requires.main_delta.1 c.insert_delta.ensures

pub interleave-requires-clause-used_bound : goal.interleave-requires-clause-used_bound
interleave-requires-clause-used_bound c =
    let gap = placed_as c.in-Err.is c.find_item.ensures in
    let ε = upserted_inserted _ _ _ _ _ _ _ _ _ c.args.accumulate c.requires.main_delta.0 c.args.i c.requires.used_bound.2.is _ gap.within gap.is _ (omega arith) c.requires.main_delta.1 c.insert_delta.ensures in
    (omega arith, omega arith, parts-rising ε.still _ (omega arith))

pub returns-in-Some : goal.returns-in-Some
returns-in-Some c =
    let here = placed_as c.in-Ok.is c.find_item.ensures in
    upserted_delta _ _ _ _ _ _ _ _ _ _ c.requires.main_delta.0 c.args.i c.requires.used_bound.2.is _ here.within here.is c.requires.main_delta.1
    (replacing_as c.in-Some.is c.combine_at.ensures) c.requires.used_bound.0

pub returns-in-None : goal.returns-in-None
returns-in-None c =
    let here = placed_as c.in-Ok.is c.find_item.ensures in
    overflow_delta _ _ _ _ _ _ _ _ _ _ c.requires.main_delta.0 c.args.i c.requires.used_bound.2.is _ here.within here.is
    (replacing_as c.in-None.is c.combine_at.ensures)

pub returns-else-p-lt-DELTA_ITEMS : goal.returns-else-p-lt-DELTA_ITEMS
returns-else-p-lt-DELTA_ITEMS c =
    let gap = placed_as c.in-Err.is c.find_item.ensures in
    let ε = upserted_inserted _ _ _ _ _ _ _ _ _ c.args.accumulate c.requires.main_delta.0 c.args.i c.requires.used_bound.2.is _ gap.within gap.is _ (omega arith) c.requires.main_delta.1 c.insert_delta.ensures in
    upserted_interleaved c.args.n (c.args.p + 1) (omega arith) ε c.interleave.ensures.store c.interleave.ensures.rows
