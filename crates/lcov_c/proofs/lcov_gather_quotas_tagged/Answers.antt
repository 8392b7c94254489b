-- `lcov_c::lcov_gather_quotas_tagged` meets its contract. Assumes nothing.
use Rattle.lcov_c.proofs.ExportLaws.{told}
use Rattle.lcov_c.proofs.lcov_gather_quotas_tagged.Goals as goal

pub returns-clause-call : goal.returns-clause-call
returns-clause-call c = told c.store_answer.ensures.number c.store_answer.ensures.words c.gather_quotas_tagged-got.ensures.call
