-- `put::put_line` meets its contract. Assumes nothing.
use Rattle.std.proofs.Common.{rules}
use Rattle.record_display.proofs.RecordFieldLaws.{line_first, line-within, line-fits, line_len, line-out}
use Rattle.record_display.proofs.put.put_line.Goals as goal

pub put_fields-end-requires-clause-last_in_bounds : goal.put_fields-end-requires-clause-last_in_bounds
put_fields-end-requires-clause-last_in_bounds c = search (line_first, rules)

pub bounds-out-end : goal.bounds-out-end
bounds-out-end c = search (line-within, rules)

pub overflow_add-result : goal.overflow_add-result
overflow_add-result c = search (line-fits, rules)

pub returns-clause-value : goal.returns-clause-value
returns-clause-value c = search (line_len, rules)

pub returns-clause-out_after : goal.returns-clause-out_after
returns-clause-out_after c = search (line-out, rules)
