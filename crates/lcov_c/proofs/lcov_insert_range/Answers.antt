-- `lcov_c::lcov_insert_range` meets its contract. Assumes nothing.
use Rattle.lcov_c.proofs.ExportLaws.{inserted}
use Rattle.lcov_c.proofs.lcov_insert_range.Goals as goal

pub returns : goal.returns
returns c = inserted c.store_answer.ensures.number c.store_answer.ensures.words c.insert-got.ensures
