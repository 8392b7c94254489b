-- `section::finish` meets its contract. Assumes nothing.
use Rattle.section.proofs.OtherLaws.{delta-main}
use Rattle.section.proofs.finish.Goals as goal

pub returns : goal.returns
returns c = delta-main c.kept_sizes.ensures c.merge_and_compact.ensures
