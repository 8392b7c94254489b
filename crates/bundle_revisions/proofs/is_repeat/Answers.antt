-- `bundle_revisions::is_repeat` meets its contract. Assumes nothing.
use Rattle.std.proofs.Common.{rules}
use Rattle.bundle_revisions.proofs.RevisionLaws.{repeats, unrepeated}
use Rattle.bundle_revisions.proofs.is_repeat.Goals as goal

pub returns-then-same_pair : goal.returns-then-same_pair
returns-then-same_pair c = search (repeats, rules)

pub returns : goal.returns
returns c = search (unrepeated, rules)
