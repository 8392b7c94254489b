-- `filter::end_of` meets its contract. Assumes nothing.
use Rattle.filter.proofs.ItemLaws.{end_own, end_reckoned}
use Rattle.filter.proofs.end_of.Goals as goal

pub returns-in-Some : goal.returns-in-Some
returns-in-Some c = end_own c.args.row c.args.reckoned c.end_line.result c.end_line.ensures _ c.in-Some.is

pub returns-in-None : goal.returns-in-None
returns-in-None c = end_reckoned c.args.row c.args.reckoned c.end_line.result c.end_line.ensures c.in-None.is
