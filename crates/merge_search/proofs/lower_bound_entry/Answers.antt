-- `merge_search::lower_bound_entry` meets its contract. Assumes nothing.
use Rattle.std.proofs.Common.{arith, ◌+◌, ◌-◌, ◌/◌}
use Rattle.table.proofs.BinarySearch.{bounds-up, bounds_down}
use Rattle.merge_search.proofs.SearchLaws.{before_falls, span-bounds}
use Rattle.merge_search.proofs.lower_bound_entry.Goals as goal

pub loop-lo-init : goal.loop-lo-init
loop-lo-init c = span-bounds c.args.key c.requires.0 c.gallop-span.ensures

pub loop-lo-preserved-then-is_before : goal.loop-lo-preserved-then-is_before
loop-lo-preserved-then-is_before c =
    bounds-up (before_falls c.args.key c.requires.0) c.loop-lo.invariant (c.loop-lo.lo + (c.loop-lo.hi - c.loop-lo.lo) / 2) (omega arith) (omega arith) (cc)

pub loop-lo-preserved : goal.loop-lo-preserved
loop-lo-preserved c =
    bounds_down (before_falls c.args.key c.requires.0) c.loop-lo.invariant (c.loop-lo.lo + (c.loop-lo.hi - c.loop-lo.lo) / 2) (omega arith) (omega arith) (cc)
