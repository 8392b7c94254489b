-- `print_totals::emit_columns` meets its contract. Assumes nothing.
use Rattle.std.proofs.Common.{rules}
use Rattle.print_totals.proofs.ColumnLaws.{columns-within, slice-emitted}
use Rattle.print_totals.proofs.emit_columns.Goals as goal

pub slice_bounds-emit_bytes-end : goal.slice_bounds-emit_bytes-end
slice_bounds-emit_bytes-end c = search (columns-within, rules)

pub returns : goal.returns
returns c = slice-emitted c.args.totals c.args.write _ _ _ c.put_columns-n.ensures.0 c.put_columns-n.ensures.1 c.emit_bytes.ensures
