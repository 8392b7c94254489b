-- `merge_combine::same_checksums` meets its contract. Assumes nothing.
use Rattle.compare.proofs.OrderLaws.{tells_equal}
use Rattle.merge_combine.proofs.same_checksums.Goals as goal

pub returns : goal.returns
returns c = λ a b. tells_equal _ c.compare_parts.ensures c.is_eq.ensures
