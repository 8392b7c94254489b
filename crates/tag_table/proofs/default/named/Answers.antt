use Rattle.std.proofs.Common.{rules}
use Rattle.model.specs.Tags.{default_tag}
use Rattle.tag_table.proofs.DefaultLaws.{named_as, not_tag, total_named}
use Rattle.tag_table.proofs.default.named.Goals as goal

pub returns-then-equal : goal.returns-then-equal
unfolding default_tag
returns-then-equal c = search (named_as, rules)

pub returns-then-equal-2 : goal.returns-then-equal-2
unfolding default_tag
returns-then-equal-2 c = search (named_as, rules)

pub returns-then-equal-3 : goal.returns-then-equal-3
unfolding default_tag
returns-then-equal-3 c = search (named_as, rules)

pub returns-then-equal-4 : goal.returns-then-equal-4
unfolding default_tag
returns-then-equal-4 c = search (named_as, rules)

pub returns-then-equal-5 : goal.returns-then-equal-5
unfolding default_tag
returns-then-equal-5 c = search (named_as, rules)

pub returns-then-equal-6 : goal.returns-then-equal-6
unfolding default_tag
returns-then-equal-6 c = search (named_as, rules)

pub returns-then-equal-7 : goal.returns-then-equal-7
unfolding default_tag
returns-then-equal-7 c = search (named_as, rules)

pub returns : goal.returns
unfolding default_tag
returns c = search (total_named, not_tag, rules)
