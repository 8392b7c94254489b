-- `put::put_head` meets its contract. Assumes nothing.
use Rattle.std.proofs.Common.{rules}
use Rattle.format.proofs.OverLaws.{over_at, second-room, second_len, second-out}
use Rattle.model.specs.Output.{output_after}
use Rattle.record_display.specs.Fields.{head_of}
use Rattle.record_display.proofs.FieldLaws.{head_first, head_is, head_fits}
use Rattle.record_display.proofs.put.put_head.Goals as goal

pub put_tag-at-requires : goal.put_tag-at-requires
unfolding head_of output_after
put_tag-at-requires c = search (head_first, rules)

pub slice_bounds-put_numbers-count : goal.slice_bounds-put_numbers-count
unfolding head_of output_after
slice_bounds-put_numbers-count c = search (over_at, head_first, rules)

pub slice_bounds-put_numbers-start : goal.slice_bounds-put_numbers-start
unfolding head_of output_after
slice_bounds-put_numbers-start c = search (over_at, head_first, rules)

pub put_numbers-n-requires : goal.put_numbers-n-requires
unfolding head_of output_after
put_numbers-n-requires c = search (second-room, head_is, rules)

pub overflow_add-result : goal.overflow_add-result
unfolding head_of output_after
overflow_add-result c = search (head_fits, rules)

pub returns : goal.returns
unfolding head_of output_after
returns c = search (second_len, second-out, rules)
