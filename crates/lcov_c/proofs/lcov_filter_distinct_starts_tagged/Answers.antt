-- `lcov_c::lcov_filter_distinct_starts_tagged` meets its contract. Assumes nothing.
use Rattle.lcov_c.proofs.ExportLaws.{told}
use Rattle.lcov_c.proofs.lcov_filter_distinct_starts_tagged.Goals as goal

pub returns : goal.returns
returns c = told c.store_answer.ensures.number c.store_answer.ensures.words c.filter_text_distinct_starts_tagged-got.ensures
