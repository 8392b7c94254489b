-- `lcov::gather_checked` meets its contract. Assumes nothing.
use Rattle.std.proofs.Common.{rules}
use Rattle.tag_table.specs.Tags.{tag_of}
use Rattle.lcov.proofs.Demand.{gathered_demand}
use Rattle.model.proofs.TagLaws.{default_tag_lawful}
use Rattle.lcov.proofs.gather_checked.Goals as goal

pub returns-clause-demand : goal.returns-clause-demand
returns-clause-demand c = (gathered_demand _ default_tag_lawful _ _ _ _ _ (search rules)).1
