-- `table_item::find_item` meets its contract: one law for each way out. Assumes nothing.
use Rattle.std.proofs.Common.{arith}
use Rattle.compare.proofs.OrderLaws.{tells_equal}
use Rattle.table_item.proofs.SearchLaws.{open_fewer, before_as, equal_as, found_none, found-last, found_here, found_at, found-gap}
use Rattle.table_item.proofs.find_item.Goals as goal

pub returns-then-has_key : goal.returns-then-has_key
returns-then-has_key c =
    let there = c.has_key.ensures c.if-has_key.true in
    found_here c.args.hint c.requires.0 there.0 there.1

pub returns-then-n-eq0 : goal.returns-then-n-eq0
returns-then-n-eq0 c = found_none (omega arith)

pub returns-then-comes_before : goal.returns-then-comes_before
returns-then-comes_before c = found-last c.requires.0 (omega arith) cc

pub returns-then-is_eq : goal.returns-then-is_eq
returns-then-is_eq c =
    found_here _ c.requires.0 (omega arith) (equal_as _ _ _ _ _ _ c.get-last.ensures (tells_equal _ c.compare_items.ensures c.is_eq.ensures) c.if-is_eq.true)

pub lower_bound_item-i-requires : goal.lower_bound_item-i-requires
lower_bound_item-i-requires c = (open_fewer _ (omega arith) c.requires.0, c.requires.1)

pub returns-then-is_eq-2 : goal.returns-then-is_eq-2
returns-then-is_eq-2 c =
    found_at (omega arith) c.lower_bound_item-i.ensures (equal_as _ _ _ _ _ _ c.get-here.ensures (tells_equal _ c.compare_items-2.ensures c.is_eq-2.ensures) c.if-is_eq-2.true)

pub returns : goal.returns
returns c =
    found-gap (omega arith) c.lower_bound_item-i.ensures (before_as _ _ _ _ _ _ c.get-last.ensures c.comes_before.ensures c.if-comes_before.false) (equal_as _ _ _ _ _ _ c.get-here.ensures (tells_equal _ c.compare_items-2.ensures c.is_eq-2.ensures) c.if-is_eq-2.false)
