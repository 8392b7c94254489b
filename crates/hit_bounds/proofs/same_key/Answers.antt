-- `hit_bounds::same_key` meets its contract. Assumes nothing.
use Rattle.std.proofs.Common.{rules}
use Rattle.hit_bounds.proofs.KeyLaws.{same_item, other_item}
use Rattle.hit_bounds.proofs.same_key.Goals as goal

pub returns-then-same_item : goal.returns-then-same_item
returns-then-same_item c = search (same_item, rules)

pub returns : goal.returns
returns c = search (other_item, rules)
