-- `lcov_c::lcov_hit_bounds_tagged` meets its contract. Assumes nothing.
use Rattle.lcov_c.proofs.ExportLaws.{stored_as}
use Rattle.lcov_c.proofs.lcov_hit_bounds_tagged.Goals as goal

pub returns : goal.returns
returns c = stored_as _ c.store_answer.ensures.number c.store_answer.ensures.words c.hit_bounds_tagged-got.ensures
