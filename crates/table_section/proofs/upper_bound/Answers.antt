-- `table_section::upper_bound` meets its contract. Assumes nothing.
use Rattle.std.proofs.Common.{arith}
use Rattle.table.proofs.BinarySearch.{bounds-up, bounds_down}
use Rattle.table_section.proofs.RangeLaws.{past_falls}
use Rattle.table_section.proofs.upper_bound.Goals as goal

pub loop-step-preserved : goal.loop-step-preserved
loop-step-preserved c =
    (bounds-up (past_falls _ _ c.requires.sections_from.0.rows) c.loop-step.invariant.0 _ (omega arith) (omega arith) cc, omega arith, omega arith)

pub partition_point-requires-clause-search_bounds : goal.partition_point-requires-clause-search_bounds
partition_point-requires-clause-search_bounds c =
    bounds_down (past_falls _ _ c.requires.sections_from.0.rows) c.loop-step.invariant.0 _ (omega arith) (omega arith) cc
