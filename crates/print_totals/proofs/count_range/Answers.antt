-- `print_totals::count_range` meets its contract. Assumes nothing.
use Rattle.print_totals.proofs.CountLaws.{range-counted}
use Rattle.print_totals.proofs.count_range.Goals as goal

pub returns : goal.returns
returns c = λ text. range-counted text _ _ _ _ _ (c.count_hits-hit.ensures text)
