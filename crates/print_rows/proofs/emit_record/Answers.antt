-- `print_rows::emit_record` meets its contract. Assumes nothing.
use Rattle.std.proofs.Common.{rules}
use Rattle.print_rows.proofs.EmitLaws.{wrote-fits, wrote-line, wrote_none}
use Rattle.print_rows.proofs.emit_record.Goals as goal

pub returns-in_default : goal.returns-in_default
returns-in_default c = search (wrote_none, rules)

pub overflow_add-result : goal.overflow_add-result
overflow_add-result c = search (wrote-fits, rules)

pub returns-then-write : goal.returns-then-write
returns-then-write c = search (wrote-line, rules)
