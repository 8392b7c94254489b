-- `table_item::comes_before` meets its contract. Assumes nothing.
use Rattle.std.proofs.Common.{arith, ◌∙◌}
use Rattle.table_item.proofs.CompareLaws.{lines-before, branches-before}
use Rattle.table_item.proofs.comes_before.Goals as goal

pub returns-then-y-eq-LINE : goal.returns-then-y-eq-LINE
returns-then-y-eq-LINE c = lines-before _ _ _ _ c.requires.0 c.requires.1 (omega arith) (omega arith)

pub returns-then-y-eq-BRANCH : goal.returns-then-y-eq-BRANCH
returns-then-y-eq-BRANCH c = c.branch_before.ensures ∙ branches-before _ _ _ _ c.requires.0 c.requires.1 (omega arith) (omega arith)
