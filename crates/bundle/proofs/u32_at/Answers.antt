-- `bundle::u32_at` meets its contract. Assumes nothing.
use Rattle.bundle.proofs.BundleLaws.{quad_u32}
use Rattle.bundle.proofs.u32_at.Goals as goal

pub returns : goal.returns
returns c = quad_u32 _ _ _ c.requires c.quad.ensures
