-- `hit_bounds::same_parts` meets its contract. Assumes nothing.
use native.Mathlib.Nat.{add-sub_cancel_left}
use Rattle.compare.proofs.OrderLaws.{tells_equal}
use Rattle.hit_bounds.proofs.same_parts.Goals as goal

pub returns : goal.returns
returns c = tells_equal _ (simp add-sub_cancel_left at c.compare_bytes-order.ensures) c.is_eq.ensures
