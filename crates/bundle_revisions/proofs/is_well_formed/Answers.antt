-- `bundle_revisions::is_well_formed` meets its contract. Assumes nothing.
use Rattle.std.proofs.Common.{◌∙◌}
use Rattle.bundle_revisions.proofs.RevisionLaws.{second-kind}
use Rattle.bundle_revisions.proofs.is_well_formed.Goals as goal

pub returns : goal.returns
returns c = c.is_well_formed_as.ensures ∙ second-kind _
