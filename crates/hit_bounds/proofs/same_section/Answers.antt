-- `hit_bounds::same_section` meets its contract. Assumes nothing.
use Rattle.std.proofs.Common.{rules}
use Rattle.hit_bounds.proofs.KeyLaws.{same_test, other_test}
use Rattle.hit_bounds.proofs.same_section.Goals as goal

pub returns-then-same_parts : goal.returns-then-same_parts
returns-then-same_parts c = search (same_test, rules)

pub returns : goal.returns
returns c = search (other_test, rules)
