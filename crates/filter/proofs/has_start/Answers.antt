-- `filter::has_start` meets its contract. Assumes nothing.
use Rattle.filter.proofs.ItemLaws.{start-given}
use Rattle.filter.proofs.has_start.Goals as goal

pub returns : goal.returns
returns c text = start-given text _ _ (c.start_key.ensures text)
