-- `print_totals::put_columns` meets its contract. Assumes nothing.
use Rattle.std.proofs.Common.{rules}
use Rattle.print_totals.proofs.ColumnLaws.{lines_at, lines-room, lines_fit, columns_len, columns-out}
use Rattle.print_totals.proofs.put_columns.Goals as goal

pub slice_bounds-put_lines-count : goal.slice_bounds-put_lines-count
slice_bounds-put_lines-count c = search (lines_at, rules)

pub slice_bounds-put_lines-start : goal.slice_bounds-put_lines-start
slice_bounds-put_lines-start c = search (lines_at, rules)

pub put_lines-n-requires : goal.put_lines-n-requires
put_lines-n-requires c = search (lines-room, rules)

pub overflow_add-result : goal.overflow_add-result
overflow_add-result c = search (lines_fit, rules)

pub returns : goal.returns
returns c = search (columns_len, columns-out, rules)
