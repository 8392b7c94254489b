-- `print_totals::emit_names` meets its contract. Assumes nothing.
use Rattle.std.proofs.Common.{arith}
use Rattle.print_totals.proofs.LineLaws.{names-emitted}
use Rattle.print_totals.proofs.emit_names.Goals as goal

pub returns : goal.returns
returns c = names-emitted c.args.text.now c.args.header c.args.write _ c.args.at (omega arith) (omega arith) c.requires.room_for c.emit_name-test.ensures c.emit_name-path.ensures c.emit_bytes.ensures
