-- `print_bound::all_fit` meets its contract. Assumes nothing.
use Rattle.std.proofs.Common.{rules}
use Rattle.print_bound.proofs.RowLaws.{leaving_start, leaving_next, leaving_end}
use Rattle.print_bound.proofs.all_fit.Goals as goal

pub loop-j-init : goal.loop-j-init
loop-j-init c = leaving_start

pub loop-j-preserved : goal.loop-j-preserved
loop-j-preserved c = let (fits, is) = c.in-Some.ensures in rw is (search (leaving_next, rules))

pub returns : goal.returns
returns c = search (leaving_end, rules)
