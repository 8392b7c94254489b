-- `merge_combine::combine_rows` meets its contract: one law for each kind. Assumes nothing.
use Rattle.std.proofs.Common.{arith}
use Rattle.merge_combine.proofs.CombineLaws.{combined_section}
use Rattle.merge_combine.proofs.combine_rows.Goals as goal

pub returns-then-kind-eq-BRANCH : goal.returns-then-kind-eq-BRANCH
returns-then-kind-eq-BRANCH c = c.combine_branches.ensures _ _ c.requires.0 c.requires.1

pub returns : goal.returns
returns c = combined_section _ _ _ _ (omega (arith, c.requires.0.good.kind)) c.requires.0
