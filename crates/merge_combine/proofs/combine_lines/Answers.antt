-- `merge_combine::combine_lines` meets its contract: one law for each choice. Assumes nothing.
use Rattle.merge_combine.proofs.CombineLaws.{line-earlier, line_later, line_neither}
use Rattle.merge_combine.proofs.combine_lines.Goals as goal

pub returns-in-Earlier : goal.returns-in-Earlier
returns-in-Earlier c =
    line-earlier _ c.args.mode c.args.old c.args.new c.requires.2 c.requires.3 c.requires.0 c.requires.1 _ c.same_checksums-alike.ensures _ c.choose.ensures _ c.in-Earlier.is c.with_sum.ensures

pub returns-in-Later : goal.returns-in-Later
returns-in-Later c =
    line_later _ c.args.mode c.args.old c.args.new c.requires.2 c.requires.3 c.requires.0 c.requires.1 _ c.same_checksums-alike.ensures _ c.choose.ensures _ c.in-Later.is c.with_sum-in-Later.ensures

pub returns-in-Neither : goal.returns-in-Neither
returns-in-Neither c =
    line_neither _ c.args.mode c.args.old c.args.new c.requires.2 c.requires.3 c.requires.0 c.requires.1 _ c.same_checksums-alike.ensures _ c.choose.ensures c.in-Neither.is
