-- `table_item::start_row` meets its contract. Assumes nothing.
use Rattle.std.proofs.Common.{arith}
use Rattle.table_item.proofs.RowLaws.{start-row-made}
use Rattle.table_item.proofs.start_row.Goals as goal

pub returns : goal.returns
returns c = start-row-made _ _ (omega arith) _ c.extent_tag.ensures c.extent_word.ensures c.item_row.ensures
