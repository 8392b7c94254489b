use Rattle.tag_table.proofs.LoadLaws.{no_table}
use Rattle.tag_table.proofs.tags.Tags.defaults.Goals as goal

pub invariant_of-result : goal.invariant_of-result
invariant_of-result c = record { checked = no_table.0 }

pub returns : goal.returns
returns c = no_table.1
