-- `section_tail::sorted_prefix_len` meets its contract. Assumes nothing.
use Rattle.std.proofs.Common.{arith}
use Rattle.section_tail.proofs.UpsertLaws.{none_open, open_next}
use Rattle.section_tail.proofs.sorted_prefix_len.Goals as goal

pub loop-k-init : goal.loop-k-init
loop-k-init c = none_open c.requires.0 (omega (arith, c.requires.1))

pub loop-k-preserved : goal.loop-k-preserved
loop-k-preserved c =
    open_next c.loop-k.k c.loop-k.invariant (omega (arith, c.requires.1)) (c.requires.2 _ (omega arith)) (c.is_ascending_at.ensures cc)
