-- `record_display::line_len` meets its contract. Assumes nothing.
use Rattle.std.proofs.Common.{rules}
use Rattle.record_display.proofs.LineLaws.{last-most, line_measured, none_measured}
use Rattle.record_display.proofs.line_len.Goals as goal

pub line_len-requires : goal.line_len-requires
line_len-requires c = search (last-most, rules)

pub returns-then-is_inside : goal.returns-then-is_inside
returns-then-is_inside c = search (line_measured, rules)

pub returns : goal.returns
returns c = search (none_measured, rules)
