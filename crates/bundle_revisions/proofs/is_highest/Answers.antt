-- `bundle_revisions::is_highest` meets its contract. Assumes nothing.
use Rattle.std.proofs.Common.{rules}
use Rattle.bundle_revisions.proofs.RevisionLaws.{surpassed, unsurpassed}
use Rattle.bundle_revisions.proofs.is_highest.Goals as goal

pub returns-then-is_higher : goal.returns-then-is_higher
returns-then-is_higher c = search (surpassed, rules)

pub returns : goal.returns
returns c = search (unsurpassed, rules)
