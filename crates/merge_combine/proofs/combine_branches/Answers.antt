-- `merge_combine::combine_branches` meets its contract: one law for each way out. Assumes nothing.
use Rattle.std.proofs.Common.{arith}
use Rattle.merge_combine.proofs.CombineLaws.{branch-earlier, branch_later, branch-sum}
use Rattle.merge_combine.proofs.combine_branches.Goals as goal

pub returns-then-new-eq0 : goal.returns-then-new-eq0
returns-then-new-eq0 c text mode w v = branch-earlier text mode c.args.old c.args.new c.requires.0 c.requires.1 (omega arith) w

pub returns-then-old-eq0 : goal.returns-then-old-eq0
returns-then-old-eq0 c text mode w v = branch_later text mode c.args.old c.args.new c.requires.0 c.requires.1 (omega arith) (omega arith) w

pub returns : goal.returns
returns c text mode w v = branch-sum text mode c.args.old c.args.new c.requires.0 c.requires.1 _ c.with_sum.ensures (omega arith) (omega arith) w
