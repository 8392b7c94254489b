-- `print_bound::max_digits` meets its contract. Assumes nothing.
use Rattle.std.proofs.Common.{rules}
use Rattle.format.proofs.DecimalLaws.{decimal-most}
use Rattle.print_bound.proofs.max_digits.Goals as goal

pub returns : goal.returns
returns c = search (decimal-most, rules)
