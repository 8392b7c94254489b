-- `lcov_c::lcov_gather_quotas` meets its contract. Assumes nothing.
use Rattle.lcov_c.proofs.ExportLaws.{told}
use Rattle.lcov_c.proofs.lcov_gather_quotas.Goals as goal

pub returns-clause-call : goal.returns-clause-call
returns-clause-call c = told c.store_answer.ensures.number c.store_answer.ensures.words c.gather_quotas-got.ensures.call
