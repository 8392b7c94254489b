use Rattle.tag_table.proofs.LoadLaws.{empty_table}
use Rattle.tag_table.proofs.tags.Tags.are_default.Goals as goal

pub returns-clause-tags : goal.returns-clause-tags
returns-clause-tags c = empty_table c.args.self.table.now
