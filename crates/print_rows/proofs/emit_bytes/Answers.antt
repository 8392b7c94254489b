-- `print_rows::emit_bytes` meets its contract. Assumes nothing.
use Rattle.std.proofs.Common.{rules}
use Rattle.print_rows.proofs.EmitLaws.{bytes-fits, bytes-emitted}
use Rattle.print_rows.proofs.emit_bytes.Goals as goal

pub overflow_add-result : goal.overflow_add-result
overflow_add-result c = search (bytes-fits, rules)

pub returns-then-write : goal.returns-then-write
returns-then-write c = search (bytes-emitted, rules)
