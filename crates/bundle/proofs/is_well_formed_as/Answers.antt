-- `bundle::is_well_formed_as` meets its contract. Assumes nothing.
use native.Mathlib.Nat.{mul-le-mul_right}
use Rattle.std.proofs.Common.{arith, rules}
use Rattle.bundle.proofs.BundleLaws.{count-is, good_if}
use Rattle.bundle.proofs.is_well_formed_as.Goals as goal

pub all_fit-requires : goal.all_fit-requires
all_fit-requires c = (search (count-is, rules), omega (arith, mul-le-mul_right c.u32_at-n.result c.requires.0))

pub returns : goal.returns
returns c = search (good_if, rules)
