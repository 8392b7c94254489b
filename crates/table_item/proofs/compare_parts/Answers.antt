-- `table_item::compare_parts` meets its contract. Assumes nothing.
use Rattle.std.proofs.Common.{arith}
use Rattle.table_item.proofs.CompareLaws.{same-part}
use Rattle.table_item.proofs.compare_parts.Goals as goal

pub returns-then-n-m : goal.returns-then-n-m
returns-then-n-m c = same-part _ c.args.a c.args.n _ _ (omega arith) (omega arith)
