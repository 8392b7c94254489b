-- `lcov_c::lcov_gather_lossy_tagged` meets its contract. Assumes nothing.
use Rattle.lcov_c.proofs.ExportLaws.{told}
use Rattle.lcov_c.proofs.lcov_gather_lossy_tagged.Goals as goal

pub returns : goal.returns
returns c = told c.store_answer.ensures.number c.store_answer.ensures.words c.gather_lossy_tagged-got.ensures
