use Rattle.std.proofs.Common.{rules}
use Rattle.record_parse.proofs.LineLaws.{end_up, end_below, end_given}
use Rattle.record_parse.proofs.lines.read_end.Goals as goal

pub returns-in_default : goal.returns-in_default
returns-in_default c = end_up _ c.requires c.number_field-second.ensures _ (search rules) c.number_refusal.ensures

pub returns-then-last-start : goal.returns-then-last-start
returns-then-last-start c = search (end_below, rules)

pub returns : goal.returns
returns c = search (end_given, rules)
