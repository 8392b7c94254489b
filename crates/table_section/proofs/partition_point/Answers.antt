-- `table_section::partition_point` meets its contract. Assumes nothing.
use Rattle.std.proofs.Common.{arith}
use Rattle.table.proofs.BinarySearch.{bounds-up, bounds_down}
use Rattle.table_section.proofs.RangeLaws.{past_falls}
use Rattle.table_section.proofs.partition_point.Goals as goal

pub loop-lo-preserved-then-is_past : goal.loop-lo-preserved-then-is_past
loop-lo-preserved-then-is_past c =
    bounds-up (past_falls _ _ c.requires.sections_from.0.rows) c.loop-lo.invariant _ (omega arith) (omega arith) cc

pub loop-lo-preserved : goal.loop-lo-preserved
loop-lo-preserved c =
    bounds_down (past_falls _ _ c.requires.sections_from.0.rows) c.loop-lo.invariant _ (omega arith) (omega arith) cc
