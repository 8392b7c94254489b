-- `table::get` meets its contract: the number in the index is that of a row. Assumes nothing.
use Rattle.table.specs.Store.{row}
use Rattle.table.proofs.get.Goals as goal

pub returns : goal.returns
unfolding row
returns c = c.read_row.ensures
