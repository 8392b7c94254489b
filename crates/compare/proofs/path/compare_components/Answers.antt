use Rattle.std.proofs.Common.{refl}
use Rattle.compare.proofs.ComponentLaws.{by_ranks}
use Rattle.compare.proofs.OrderLaws.{numbers_compared, then_compared}
use Rattle.compare.proofs.path.compare_components.Goals as goal

pub returns : goal.returns
returns c = by_ranks _ _ _ _ _ _ _ c.rank.ensures c.rank-2.ensures (numbers_compared _ _ c.cmp.ensures) c.compare_bytes.ensures (then_compared _ _ refl refl c.then.ensures)
