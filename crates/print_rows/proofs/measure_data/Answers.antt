-- `print_rows::measure_data` meets its contract. Assumes nothing.
use Rattle.std.proofs.Common.{refl, arith, rules}
use Rattle.print_rows.proofs.LengthLaws.{past-line, past_checked, past_untaken, past-taken, past-function, past-none}
use Rattle.print_rows.proofs.measure_data.Goals as goal

pub returns-then-row-eq0 : goal.returns-then-row-eq0
returns-then-row-eq0 c = search (past-line, rules)

pub returns-then-kind-eq-LINE : goal.returns-then-kind-eq-LINE
returns-then-kind-eq-LINE c = search (past_checked, rules)

pub returns-then-row-eq0-2 : goal.returns-then-row-eq0-2
returns-then-row-eq0-2 c = search (past_untaken, rules)

pub returns-then-kind-eq-BRANCH : goal.returns-then-kind-eq-BRANCH
returns-then-kind-eq-BRANCH c = search (past-taken, rules)

pub returns-then-kind-eq-FUNCTION : goal.returns-then-kind-eq-FUNCTION
returns-then-kind-eq-FUNCTION c = search (past-function, rules)

pub returns : goal.returns
returns c text good = past-none _ text _ good _ _ refl (omega arith) (omega arith) (omega arith) (omega arith)
