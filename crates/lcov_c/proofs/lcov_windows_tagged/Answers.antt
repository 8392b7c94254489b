-- `lcov_c::lcov_windows_tagged` meets its contract. Assumes nothing.
use Rattle.lcov_c.proofs.ExportLaws.{told}
use Rattle.lcov_c.proofs.lcov_windows_tagged.Goals as goal

pub returns : goal.returns
returns c = told c.store_answer.ensures.number c.store_answer.ensures.words c.windows_tagged-got.ensures
