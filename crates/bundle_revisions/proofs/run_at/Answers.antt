-- `bundle_revisions::run_at` meets its contract. Assumes nothing.
use Rattle.std.proofs.Common.{rules}
use Rattle.bundle_revisions.proofs.RevisionLaws.{run_is}
use Rattle.bundle_revisions.proofs.run_at.Goals as goal

pub returns : goal.returns
returns c = search (run_is, rules)
