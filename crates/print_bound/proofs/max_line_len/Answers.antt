-- `print_bound::max_line_len` meets its contract: a law for each kind of row. Assumes nothing.
use Rattle.std.proofs.Common.{rules}
use Rattle.print_bound.proofs.RowLaws.{line-max, branch-max, function-max, section-row-max}
use Rattle.print_bound.proofs.max_line_len.Goals as goal

pub returns-then-kind-gt-BRANCH : goal.returns-then-kind-gt-BRANCH
returns-then-kind-gt-BRANCH c = search (line-max, rules)

pub returns-then-kind-eq-BRANCH : goal.returns-then-kind-eq-BRANCH
returns-then-kind-eq-BRANCH c = search (branch-max, rules)

pub returns-then-kind-eq-FUNCTION : goal.returns-then-kind-eq-FUNCTION
returns-then-kind-eq-FUNCTION c = search (function-max, rules)

pub returns : goal.returns
returns c = search (section-row-max, rules)
