-- `table_item::line_row` meets its contract. Assumes nothing.
use Rattle.table_item.proofs.RowLaws.{checksum-made, line_made}
use Rattle.table_item.proofs.line_row.Goals as goal

pub returns-in-Some : goal.returns-in-Some
returns-in-Some c = checksum-made _ _ _ c.in-Some.is c.item_row.ensures

pub returns-in-None : goal.returns-in-None
returns-in-None c = line_made _ _ c.in-None.is c.item_row-in-None.ensures
