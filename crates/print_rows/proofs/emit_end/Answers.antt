-- `print_rows::emit_end` meets its contract. Assumes nothing.
use Rattle.std.proofs.Common.{rules}
use Rattle.print_rows.proofs.EmitLaws.{room_as, emitted_as}
use Rattle.print_rows.proofs.LentLaws.{end_line_lem}
use Rattle.print_rows.proofs.emit_end.Goals as goal

pub emit_record-requires : goal.emit_record-requires
emit_record-requires c = search (room_as, end_line_lem, rules)

pub returns : goal.returns
returns c = search (emitted_as, end_line_lem, rules)
