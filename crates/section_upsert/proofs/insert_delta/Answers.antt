-- `section_upsert::insert_delta` meets its contract. Assumes nothing.
use Rattle.std.proofs.Common.{arith}
use Rattle.section_upsert.proofs.InsertLaws.{inserted}
use Rattle.section_upsert.proofs.insert_delta.Goals as goal

pub returns : goal.returns
returns c =
    inserted _ _ _ _ _ _ _ _ c.requires.store.1 c.requires.store.2 c.requires.used_bound.0 (omega arith)
    c.put.ensures.rows c.put.ensures.spare c.move_row.ensures.store c.move_row.ensures.rows c.move_row.ensures.spare c.copy_words.ensures c.copy_words.auto.words
