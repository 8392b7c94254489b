-- `joined_table::gather_behind` meets its contract. Assumes nothing.
use Rattle.std.proofs.Common.{rules}
use Rattle.joined_table.proofs.GatherLaws.{text-refused, text-joined, text_conflict}
use Rattle.joined_table.proofs.gather_behind.Goals as goal

pub returns-in-Err : goal.returns-in-Err
returns-in-Err c = search (text-refused, rules)

pub returns-in-Ok-merge : goal.returns-in-Ok-merge
returns-in-Ok-merge c =
    text-joined _ _ _ _ _ _ _ _ _ _ c.read_behind.ensures c.in-Ok.read.kept c.in-Ok.read.used c.in-Ok.is _ _ c.base_at-base.ensures c.index_at-index.ensures _ _ c.merge.ensures _ c.in-Ok-merge.is

pub returns-in-Err-merge : goal.returns-in-Err-merge
returns-in-Err-merge c =
    text_conflict _ _ _ _ _ _ _ _ _ _ c.read_behind.ensures c.in-Ok.read.kept c.in-Ok.read.used c.in-Ok.is _ _ c.base_at-base.ensures c.index_at-index.ensures _ _ c.merge.ensures _ _ _ c.in-Err-merge.is c.from.ensures c.in_text-in-Err-merge.ensures
