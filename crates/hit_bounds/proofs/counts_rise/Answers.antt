-- `hit_bounds::counts_rise` meets its contract. Assumes nothing.
use Rattle.std.proofs.Common.{arith}
use Rattle.hit_bounds.proofs.ListLaws.{all-next, count_at, rise_at, rise_above, rise_same}
use Rattle.hit_bounds.proofs.counts_rise.Goals as goal

pub returns-then-count_of : goal.returns-then-count_of
returns-then-count_of c a b =
    let x = count_at _ c.get-x.ensures c.count_of-in-loop-i.ensures a in
    let y = count_at _ c.get-y.ensures c.count_of.ensures b in
    rise_above _ _ _ c.loop-i.i (omega arith) _ _ x y (omega arith)

pub loop-i-preserved : goal.loop-i-preserved
loop-i-preserved c a b =
    let x = count_at _ c.get-x.ensures c.count_of-in-loop-i.ensures a in
    let y = count_at _ c.get-y.ensures c.count_of.ensures b in
    all-next _ _ (c.loop-i.invariant a b) (rise_at x y (omega arith))

pub returns : goal.returns
returns c a b = rise_same _ _ _ _ (omega arith) (c.loop-i.invariant a b)
