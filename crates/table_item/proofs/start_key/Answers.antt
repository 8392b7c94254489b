-- `table_item::start_key` meets its contract. Assumes nothing.
use Rattle.std.proofs.Common.{arith}
use Rattle.table_item.proofs.RowLaws.{key-none, key-plain, key_packed}
use Rattle.table_item.proofs.start_key.Goals as goal

pub returns-then-row-ne-FUNCTION : goal.returns-then-row-ne-FUNCTION
returns-then-row-ne-FUNCTION c = key-none _ (omega arith)

pub returns-then-row-eq0 : goal.returns-then-row-eq0
returns-then-row-eq0 c = key-plain _ (omega arith) (omega arith)

pub returns : goal.returns
returns c = key_packed _ (omega arith) (omega arith)
