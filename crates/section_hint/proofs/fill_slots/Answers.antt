-- `section_hint::fill_slots` meets its contract. Assumes nothing.
use Rattle.std.proofs.Common.{arith}
use Rattle.section_hint.proofs.HintLaws.{kept_trans, row-inner}
use Rattle.section_hint.proofs.fill_slots.Goals as goal

pub hash_key-requires : goal.hash_key-requires
hash_key-requires c =
    row-inner c.requires.sorted_items (kept_trans c.clear.ensures c.loop-i.invariant) c.requires.used_bound.0 (omega arith) c.get-row.ensures
