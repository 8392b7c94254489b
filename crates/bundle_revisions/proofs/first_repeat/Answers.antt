-- `bundle_revisions::first_repeat` meets its contract. Assumes nothing.
use Rattle.std.proofs.Common.{rules}
use Rattle.bundle_revisions.proofs.RevisionLaws.{repeat_first, no_repeat}
use Rattle.bundle_revisions.proofs.first_repeat.Goals as goal

pub returns-then-is_repeat : goal.returns-then-is_repeat
returns-then-is_repeat c = search (repeat_first, rules)

pub returns : goal.returns
returns c = search (no_repeat, rules)
