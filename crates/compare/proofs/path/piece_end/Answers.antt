use Rattle.std.proofs.Common.{rules}
use Rattle.compare.proofs.SplitLaws.{cutting_step}
use Rattle.compare.proofs.path.piece_end.Goals as goal

pub loop-i-preserved : goal.loop-i-preserved
loop-i-preserved c = search (cutting_step, rules)
