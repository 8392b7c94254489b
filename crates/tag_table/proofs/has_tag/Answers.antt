use Rattle.std.proofs.Common.{length-take-le, rules}
use Rattle.tag_table.proofs.KindLaws.{has_room}
use Rattle.tag_table.proofs.has_tag.Goals as goal

pub slice_bounds-equal-end : goal.slice_bounds-equal-end
slice_bounds-equal-end c = search (has_room, length-take-le, rules)
