-- `table::push_row` meets its contract. Assumes nothing.
use Rattle.table.proofs.StoreLaws.{grown_rows}
use Rattle.table.proofs.push_row.Goals as goal

pub returns-clause-rows : goal.returns-clause-rows
returns-clause-rows c = grown_rows _ _ c.requires.0 c.requires.1 c.requires.2
