-- `put::put_fields` meets its contract. Assumes nothing.
use Rattle.std.proofs.Common.{rules}
use Rattle.format.proofs.OverLaws.{over_at, second-out}
use Rattle.record_display.proofs.RecordFieldLaws.{fields_first, last-room, fields_fits, fields_len, fields_are}
use Rattle.record_display.proofs.put.put_fields.Goals as goal

pub put_head-at-requires : goal.put_head-at-requires
put_head-at-requires c = search (fields_first, rules)

pub slice_bounds-put_last-count : goal.slice_bounds-put_last-count
slice_bounds-put_last-count c = search (over_at, fields_first, rules)

pub slice_bounds-put_last-start : goal.slice_bounds-put_last-start
slice_bounds-put_last-start c = search (over_at, fields_first, rules)

pub put_last-n-requires : goal.put_last-n-requires
put_last-n-requires c = search (last-room, rules)

pub overflow_add-result : goal.overflow_add-result
overflow_add-result c = search (fields_fits, rules)

pub returns-clause-value : goal.returns-clause-value
returns-clause-value c = search (fields_len, rules)

pub returns-clause-out_after : goal.returns-clause-out_after
returns-clause-out_after c = search (second-out, fields_are, rules)
