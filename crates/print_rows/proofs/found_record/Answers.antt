-- `print_rows::found_record` meets its contract. Assumes nothing.
use Rattle.std.proofs.Common.{rules}
use Rattle.print_rows.proofs.LentLaws.{functions_found_lem, branches_found_lem, lines_found_lem}
use Rattle.print_rows.proofs.found_record.Goals as goal

pub returns-then-kind-eq-FUNCTION : goal.returns-then-kind-eq-FUNCTION
returns-then-kind-eq-FUNCTION c = search (functions_found_lem, rules)

pub returns-then-kind-eq-BRANCH : goal.returns-then-kind-eq-BRANCH
returns-then-kind-eq-BRANCH c = search (branches_found_lem, rules)

pub returns : goal.returns
returns c = search (lines_found_lem, rules)
