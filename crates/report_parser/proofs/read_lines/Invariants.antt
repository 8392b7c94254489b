-- The loop of `report_parser::read_lines`: what is left of the text gives the answer of the whole. Assumes nothing.
use Rattle.std.proofs.Common.{◌+◌, ◌-◌, ◌≤◌, length}
use Rattle.tag_table.specs.Tags.{tag_of}
use Rattle.report_parser.specs.Reader.{Progress}
use Rattle.report_parser.proofs.read_lines.Given as goal

abbrev pub invariant-loop-at : goal.invariant-loop-at
invariant-loop-at l = Progress (tag_of l.tags) l.text l.words l.index l.limit l.from l.at l.number l.state × (l.at ≤ length l.text + 1)

abbrev pub decreases-loop-at : goal.decreases-loop-at
decreases-loop-at l = length l.text + 1 - l.at
