-- `table_item::is_calls` meets its contract. Assumes nothing.
use Rattle.std.proofs.Common.{arith}
use Rattle.table_item.proofs.RowLaws.{calls_never, calls-plain}
use Rattle.table_item.proofs.is_calls.Goals as goal

pub returns-then-row : goal.returns-then-row
returns-then-row c = calls_never _ (omega arith)

pub returns : goal.returns
returns c = calls-plain _ (omega arith)
