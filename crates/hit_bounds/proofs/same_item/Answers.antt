-- `hit_bounds::same_item` meets its contract. Assumes nothing.
use Rattle.std.proofs.Common.{rules}
use Rattle.hit_bounds.proofs.KeyLaws.{other-kind, functions, branches, lines, headers}
use Rattle.hit_bounds.proofs.same_item.Goals as goal

pub returns-then-kind-y : goal.returns-then-kind-y
returns-then-kind-y c = search (other-kind, rules)

pub returns-then-kind-eq-FUNCTION : goal.returns-then-kind-eq-FUNCTION
returns-then-kind-eq-FUNCTION c = search (functions, rules)

pub returns-then-kind-eq-BRANCH : goal.returns-then-kind-eq-BRANCH
returns-then-kind-eq-BRANCH c = search (branches, rules)

pub returns-then-kind-eq-LINE : goal.returns-then-kind-eq-LINE
returns-then-kind-eq-LINE c = search (lines, rules)

pub returns : goal.returns
returns c = search (headers, rules)
