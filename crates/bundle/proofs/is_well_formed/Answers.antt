-- `bundle::is_well_formed` meets its contract. Assumes nothing.
use Rattle.std.proofs.Common.{◌∙◌}
use Rattle.bundle.proofs.BundleLaws.{first_kind}
use Rattle.bundle.proofs.is_well_formed.Goals as goal

pub returns : goal.returns
returns c = c.is_well_formed_as.ensures ∙ first_kind _
