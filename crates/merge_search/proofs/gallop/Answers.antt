-- `merge_search::gallop` meets its contract. Assumes nothing.
use Rattle.std.proofs.Common.{arith, ◌+◌}
use Rattle.merge_search.proofs.SearchLaws.{passed-up}
use Rattle.merge_search.proofs.gallop.Goals as goal

pub loop-step-preserved : goal.loop-step-preserved
loop-step-preserved c = (omega arith, passed-up c.args.key c.requires.0 (c.loop-step.lo + c.loop-step.step) (omega arith) (cc))
