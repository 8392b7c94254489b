-- `lcov_c::lcov_filter` meets its contract. Assumes nothing.
use Rattle.lcov_c.proofs.ExportLaws.{told}
use Rattle.lcov_c.proofs.lcov_filter.Goals as goal

pub returns : goal.returns
returns c = told c.store_answer.ensures.number c.store_answer.ensures.words c.filter_text-got.ensures
