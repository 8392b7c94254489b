-- `lcov_c::lcov_read_line_tagged` meets its contract. Assumes nothing.
use Rattle.lcov_c.proofs.ExportLaws.{stored}
use Rattle.lcov_c.proofs.lcov_read_line_tagged.Goals as goal

pub returns : goal.returns
returns c = stored _ c.store_answer.ensures.number c.store_answer.ensures.words c.read_line_tagged-got.ensures
