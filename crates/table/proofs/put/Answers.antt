-- `table::put` meets its contract. Assumes nothing.
use Rattle.table.proofs.StoreLaws.{put_row}
use Rattle.table.proofs.put.Goals as goal

pub returns-clause-rows : goal.returns-clause-rows
returns-clause-rows c = put_row c.requires.0 c.requires.1 c.write_row.ensures
