-- `print_totals::emit_name` meets its contract. Assumes nothing.
use Rattle.std.proofs.Common.{arith}
use Rattle.print_totals.proofs.LineLaws.{name-emitted}
use Rattle.print_totals.proofs.emit_name.Goals as goal

pub returns : goal.returns
returns c = name-emitted c.args.text.now c.args.start c.args.len c.args.write _ c.args.at c.requires.1 (omega arith) c.emit_bytes-next.ensures c.emit_bytes.ensures
