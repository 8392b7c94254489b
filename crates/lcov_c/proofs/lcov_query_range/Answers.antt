-- `lcov_c::lcov_query_range` meets its contract. Assumes nothing.
use Rattle.lcov_c.proofs.ExportLaws.{stored}
use Rattle.lcov_c.proofs.lcov_query_range.Goals as goal

pub returns : goal.returns
returns c = stored _ c.store_answer.ensures.number c.store_answer.ensures.words c.query-got.ensures
