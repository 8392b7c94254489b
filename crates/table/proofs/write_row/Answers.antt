-- `table::write_row` meets its contract: nine stores, each within the row. Assumes nothing.
use Rattle.std.proofs.Common.{arith}
use native.Mathlib.Numerals.{towards_suc}
use Rattle.table.proofs.WordLaws.{written}
use Rattle.table.proofs.write_row.Goals as goal

pub returns : goal.returns
returns c = written _ _ _ _ (omega arith) (simp towards_suc)
