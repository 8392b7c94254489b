-- `table_item::lower_bound_item` meets its contract. Assumes nothing.
use Rattle.std.proofs.Common.{arith}
use Rattle.table.proofs.BinarySearch.{bounds-up, bounds_down}
use Rattle.table_item.proofs.SearchLaws.{before_falls}
use Rattle.table_item.proofs.lower_bound_item.Goals as goal

pub loop-lo-preserved-then-comes_before : goal.loop-lo-preserved-then-comes_before
loop-lo-preserved-then-comes_before c =
    bounds-up (before_falls _ _ _ c.requires.0.sorted) c.loop-lo.invariant _ (omega arith) (omega arith) cc

pub loop-lo-preserved : goal.loop-lo-preserved
loop-lo-preserved c =
    bounds_down (before_falls _ _ _ c.requires.0.sorted) c.loop-lo.invariant _ (omega arith) (omega arith) cc
