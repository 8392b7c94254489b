-- `table_item::branch_row` meets its contract. Assumes nothing.
use Rattle.table_item.proofs.RowLaws.{taken_made, untaken_made}
use Rattle.table_item.proofs.branch_row.Goals as goal

pub returns-in-Some : goal.returns-in-Some
returns-in-Some c = taken_made _ _ _ _ c.in-Some.is c.item_row.ensures

pub returns-in-None : goal.returns-in-None
returns-in-None c = untaken_made _ _ _ c.in-None.is c.item_row-in-None.ensures
