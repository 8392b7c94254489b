-- `print_totals::print_lines` meets its contract. Assumes nothing.
use Rattle.std.proofs.Common.{arith, rules}
use Rattle.print_totals.proofs.LineLaws.{counting_start, counting_next, last-small, last-room, newline-room, page_done}
use Rattle.print_totals.proofs.print_lines.Goals as goal

pub loop-lo-init : goal.loop-lo-init
loop-lo-init c = counting_start c.requires.table.0 c.requires.room_for (omega arith)

pub loop-lo-preserved : goal.loop-lo-preserved
loop-lo-preserved c = counting_next c.loop-lo.invariant c.print_line-line.ensures (search rules) c.add_totals-sums.ensures

pub emit_columns-end-requires : goal.emit_columns-end-requires
emit_columns-end-requires c = (last-small c.loop-lo.invariant c.loop-lo-test.false c.requires.table.1, last-room c.loop-lo.invariant c.loop-lo-test.false)

pub emit_bytes-requires : goal.emit_bytes-requires
emit_bytes-requires c = newline-room c.loop-lo.invariant c.loop-lo-test.false c.emit_columns-end.ensures

pub returns : goal.returns
returns c = page_done c.loop-lo.invariant c.loop-lo-test.false c.emit_columns-end.ensures c.emit_bytes.ensures
