-- `record_display::print_line_data` meets its contract. Assumes nothing.
use Rattle.std.proofs.Common.{rules}
use Rattle.model.proofs.CallLaws.{write_called}
use Rattle.record_display.proofs.CountLaws.{counted-room, counted-written, counted-out}
use Rattle.record_display.proofs.print_line_data.Goals as goal

pub put_line_data-n-requires : goal.put_line_data-n-requires
put_line_data-n-requires c = search (counted-room, rules)

pub returns-then-out-ge-MAX_HEAD : goal.returns-then-out-ge-MAX_HEAD
returns-then-out-ge-MAX_HEAD c = search (write_called, counted-written, counted-out, rules)
