use Rattle.std.proofs.Common.{rules}
use Rattle.tag_table.proofs.DefaultLaws.{tag_data, tag-branch, tag-written, tag-out}
use Rattle.tag_table.proofs.default.put_tag.Goals as goal

pub returns-in-LineData : goal.returns-in-LineData
returns-in-LineData c = search (tag_data, tag-written, tag-out, rules)

pub returns-in-BranchData : goal.returns-in-BranchData
returns-in-BranchData c = search (tag-branch, tag-written, tag-out, rules)
