-- `table_item::compare_items` meets its contract: one law for each kind. Assumes nothing.
use Rattle.std.proofs.Common.{arith}
use Rattle.compare.proofs.OrderLaws.{numbers_compared, then_compared}
use Rattle.table_item.proofs.CompareLaws.{kinds_less, kinds_greater, functions, branches, lines, sections}
use Rattle.table_item.proofs.compare_items.Goals as goal

pub returns-then-kind-other : goal.returns-then-kind-other
returns-then-kind-other c = kinds_less _ _ _ _ c.requires.0 c.requires.1 (omega arith)

pub returns-then-other-kind : goal.returns-then-other-kind
returns-then-other-kind c = kinds_greater _ _ _ _ c.requires.0 c.requires.1 (omega arith)

pub returns-then-kind-eq-FUNCTION : goal.returns-then-kind-eq-FUNCTION
returns-then-kind-eq-FUNCTION c = functions _ _ _ _ c.requires.0 c.requires.1 (omega arith) (omega arith) (omega arith) _ c.compare_parts.ensures

pub returns-then-kind-eq-BRANCH : goal.returns-then-kind-eq-BRANCH
returns-then-kind-eq-BRANCH c =
    let x = c.args.x in
    let y = c.args.y in
    let second = numbers_compared x.k2 y.k2 c.cmp.ensures in
    let third = numbers_compared x.k3 y.k3 c.cmp-then-kind-eq-BRANCH.ensures in
    let first = numbers_compared x.k1 y.k1 c.cmp-then-kind-eq-BRANCH-2.ensures in
    let rest = then_compared _ _ second third c.then-last.ensures in
    branches _ _ _ _ c.requires.0 c.requires.1 (omega arith) (omega arith) (omega arith) _ (then_compared _ _ first rest c.then.ensures)

pub returns-then-kind-eq-LINE : goal.returns-then-kind-eq-LINE
returns-then-kind-eq-LINE c = lines _ _ _ _ c.requires.0 c.requires.1 (omega arith) (omega arith) (omega arith) _ (numbers_compared c.args.x.k1 c.args.y.k1 c.cmp-then-kind-eq-LINE.ensures)

pub returns : goal.returns
returns c = sections _ _ _ _ c.requires.0 c.requires.1 (omega arith) (omega arith) (omega arith) (omega arith) (omega arith)
