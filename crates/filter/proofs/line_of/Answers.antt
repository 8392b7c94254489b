-- `filter::line_of` meets its contract. Assumes nothing.
use Rattle.std.proofs.Common.{arith, rules}
use Rattle.filter.proofs.ItemLaws.{line-none, line_is, line-fits}
use Rattle.filter.proofs.line_of.Goals as goal

pub returns-then-row : goal.returns-then-row
returns-then-row c text = line-none text _ (omega arith)

pub overflow_cast-result : goal.overflow_cast-result
overflow_cast-result c = search (line-fits, rules)

pub returns : goal.returns
returns c text = line_is text _ (omega arith)
