-- `put::put_line_data` meets its contract. Assumes nothing.
use Rattle.std.proofs.Common.{rules}
use Rattle.record_display.proofs.CountLaws.{count-first, count_at, count_room, count-ends, count-within, count_fits, count_len, count-out}
use Rattle.record_display.proofs.put.put_line_data.Goals as goal

pub put_tag-at-requires : goal.put_tag-at-requires
put_tag-at-requires c = search (count-first, rules)

pub slice_bounds-put_pair-count : goal.slice_bounds-put_pair-count
slice_bounds-put_pair-count c = search (count_at, rules)

pub slice_bounds-put_pair-start : goal.slice_bounds-put_pair-start
slice_bounds-put_pair-start c = search (count_at, rules)

pub put_pair-n-requires : goal.put_pair-n-requires
put_pair-n-requires c = search (count_room, rules)

pub overflow_add-end : goal.overflow_add-end
overflow_add-end c = search (count-ends, rules)

pub bounds-out-end : goal.bounds-out-end
bounds-out-end c = search (count-within, rules)

pub overflow_add-result : goal.overflow_add-result
overflow_add-result c = search (count_fits, rules)

pub returns-clause-value : goal.returns-clause-value
returns-clause-value c = search (count_len, rules)

pub returns-clause-out_after : goal.returns-clause-out_after
returns-clause-out_after c = search (count-out, rules)
