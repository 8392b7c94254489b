-- `print_rows::emit_data` meets its contract. Assumes nothing.
use Rattle.std.proofs.Common.{arith}
use Rattle.print_rows.proofs.EmitLaws.{room-written, emitted-written, emitted-past}
use Rattle.print_rows.proofs.LentLaws.{count-line, line-number-fits}
use Rattle.print_rows.proofs.emit_data.Goals as goal

pub overflow_cast-row : goal.overflow_cast-row
overflow_cast-row c = line-number-fits _ _ c.requires.item_in_bounds.1 (omega arith)

pub emit_line_data-requires : goal.emit_line_data-requires
emit_line_data-requires c =
    let a = c.args in
    room-written a.write a.out.now a.at _ _ c.if-write.true (count-line _ a.text.now a.row (omega arith)) c.requires.room_for

pub returns-then-are_default : goal.returns-then-are_default
returns-then-are_default c =
    let a = c.args in emitted-written a.write _ _ c.if-write.true (count-line _ a.text.now a.row (omega arith)) c.emit_line_data.ensures

pub returns : goal.returns
returns c =
    let a = c.args in
    emitted-past a.write a.out.now _ a.at _ c.if-write.false (c.measure_data.ensures a.text.now c.requires.item_in_bounds.0)
