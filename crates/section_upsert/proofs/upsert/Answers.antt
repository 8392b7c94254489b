-- `section_upsert::upsert` meets its contract: the search gives the place, and one law answers each way out. Assumes nothing.
use Rattle.std.proofs.Common.{◌≡◌, Err, ap, ◌∙◌, arith}
use Rattle.table_item.proofs.SearchLaws.{placed_as}
use Rattle.section_upsert.proofs.InsertLaws.{replacing_as}
use Rattle.section_upsert.proofs.UpsertLaws.{upserted_main, overflow_main, last_full, upserted_last}
use Rattle.section_upsert.proofs.upsert.Goals as goal

pub returns-then-used-at : goal.returns-then-used-at
returns-then-used-at c =
    let gap = placed_as c.in-Err.is c.find_item.ensures in
    let e : c.args.n ≡ c.in-Err.i = omega arith in
    last_full _ _ _ _ _ _ _ _ _ _ c.requires.main_delta.0 (omega arith) (ap Err e ∙ gap.is) (omega arith)

pub returns-then-i-n : goal.returns-then-i-n
returns-then-i-n c =
    let gap = placed_as c.in-Err.is c.find_item.ensures in
    let e : c.args.n ≡ c.in-Err.i = omega arith in
    upserted_last _ _ _ _ _ _ _ _ _ _ c.requires.main_delta.0 _ (omega arith) (ap Err e ∙ gap.is) (omega arith) c.requires.main_delta.1 c.put.ensures.store c.put.ensures.rows

pub returns-in-Some : goal.returns-in-Some
returns-in-Some c =
    let here = placed_as c.in-Ok.is c.find_item.ensures in
    upserted_main _ _ _ _ _ _ _ _ _ _ c.requires.main_delta.0 _ here.within here.is c.requires.main_delta.1
    (replacing_as c.in-Some.is c.combine_at.ensures) c.requires.used_bound.0

pub returns-in-None : goal.returns-in-None
returns-in-None c =
    let here = placed_as c.in-Ok.is c.find_item.ensures in
    overflow_main _ _ _ _ _ _ _ _ _ _ c.requires.main_delta.0 _ here.within here.is (replacing_as c.in-None.is c.combine_at.ensures)
