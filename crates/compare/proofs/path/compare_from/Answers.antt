use Rattle.std.proofs.Common.{rules, ◌≡◌, true, false}
use Rattle.std.proofs.Math.Dec.{compare_is_eq}
use Rattle.compare.specs.Orders.{order_of}
use Rattle.compare.proofs.PathLaws.{left-none, right-none, left_on, left-stop}
use Rattle.compare.proofs.OrderLaws.{ne_unequal, ne_equal}
use Rattle.compare.proofs.path.compare_from.Goals as goal

pub returns-in_default : goal.returns-in_default
returns-in_default c = search (left-none, rules)

pub returns-in_default-y : goal.returns-in_default-y
returns-in_default-y c = search (right-none, rules)

pub returns-then-is_ne : goal.returns-then-is_ne
returns-then-is_ne c = let u : compare_is_eq (order_of c.compare_components-order.result) ≡ false = ne_unequal _ c.is_ne.ensures c.if-is_ne.true in search (left-stop, u, rules)

pub loop-x-preserved : goal.loop-x-preserved
loop-x-preserved c = let u : compare_is_eq (order_of c.compare_components-order.result) ≡ true = ne_equal _ c.is_ne.ensures c.if-is_ne.false in search (left_on, u, rules)
