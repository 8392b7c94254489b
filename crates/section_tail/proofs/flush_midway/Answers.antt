-- `section_tail::flush_midway` meets its contract. Assumes nothing.
use Rattle.std.proofs.Common.{arith}
use Rattle.section_tail.proofs.UpsertLaws.{hinted, flushes_as}
use Rattle.section_tail.proofs.flush_midway.Goals as goal

pub returns : goal.returns
returns c = flushes_as (hinted c.requires.1 (omega arith) c.fill.ensures c.fill.auto.words c.flush_tail-all.ensures)
