-- `table_item::end_line` meets its contract. Assumes nothing.
use Rattle.std.proofs.Common.{arith}
use Rattle.table_item.proofs.RowLaws.{no_end, some_end}
use Rattle.table_item.proofs.end_line.Goals as goal

pub returns-then-row : goal.returns-then-row
returns-then-row c = no_end _ (omega arith)

pub returns : goal.returns
returns c = some_end _ (omega arith)
