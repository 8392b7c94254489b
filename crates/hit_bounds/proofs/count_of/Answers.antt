-- `hit_bounds::count_of` meets its contract. Assumes nothing.
use Rattle.std.proofs.Common.{rules}
use Rattle.hit_bounds.proofs.KeyLaws.{header-count, untaken_count, given-count}
use Rattle.hit_bounds.proofs.count_of.Goals as goal

pub returns-then-kind-eq0 : goal.returns-then-kind-eq0
returns-then-kind-eq0 c = search (header-count, rules)

pub returns-then-row : goal.returns-then-row
returns-then-row c = search (untaken_count, rules)

pub returns : goal.returns
returns c = search (given-count, rules)
