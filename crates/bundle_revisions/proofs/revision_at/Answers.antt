-- `bundle_revisions::revision_at` meets its contract. Assumes nothing.
use Rattle.std.proofs.Common.{rules}
use Rattle.bundle_revisions.proofs.RevisionLaws.{revision_is}
use Rattle.bundle_revisions.proofs.revision_at.Goals as goal

pub returns : goal.returns
returns c = search (revision_is, rules)
