-- `lcov_c::lcov_read_text_tagged` meets its contract. Assumes nothing.
use Rattle.lcov_c.proofs.ExportLaws.{told}
use Rattle.lcov_c.proofs.lcov_read_text_tagged.Goals as goal

pub returns : goal.returns
returns c = told c.store_answer.ensures.number c.store_answer.ensures.words c.read_text_tagged-got.ensures
