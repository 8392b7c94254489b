-- `print_rows::hit_record` meets its contract. Assumes nothing.
use Rattle.std.proofs.Common.{rules}
use Rattle.print_rows.proofs.LentLaws.{functions_hit_lem, branches_hit_lem, lines_hit_lem}
use Rattle.print_rows.proofs.hit_record.Goals as goal

pub returns-then-kind-eq-FUNCTION : goal.returns-then-kind-eq-FUNCTION
returns-then-kind-eq-FUNCTION c = search (functions_hit_lem, rules)

pub returns-then-kind-eq-BRANCH : goal.returns-then-kind-eq-BRANCH
returns-then-kind-eq-BRANCH c = search (branches_hit_lem, rules)

pub returns : goal.returns
returns c = search (lines_hit_lem, rules)
