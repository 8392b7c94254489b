-- `table_item::calls_row` meets its contract. Assumes nothing.
use Rattle.table_item.proofs.RowLaws.{calls-made}
use Rattle.table_item.proofs.calls_row.Goals as goal

pub returns : goal.returns
returns c = calls-made _ _ c.item_row.ensures
