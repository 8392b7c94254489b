-- `print_bound::first_fit` meets its contract. Assumes nothing.
use Rattle.std.proofs.Common.{rules}
use Rattle.print_bound.proofs.RowLaws.{first-start, first_next}
use Rattle.print_bound.proofs.first_fit.Goals as goal

pub loop-i-init : goal.loop-i-init
loop-i-init c = first-start

pub loop-i-preserved : goal.loop-i-preserved
loop-i-preserved c = let (fits, is) = c.in-Some.ensures in rw is (search (first_next, rules))
