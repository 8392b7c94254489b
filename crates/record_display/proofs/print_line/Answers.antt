-- `record_display::print_line` meets its contract. Assumes nothing.
use Rattle.std.proofs.Common.{rules}
use Rattle.model.proofs.CallLaws.{write_called}
use Rattle.record_display.proofs.LineLaws.{last-most, print_short, print_kept, print_room, print_written, print_out, print_outside, print_left}
use Rattle.record_display.proofs.print_line.Goals as goal

pub fits-requires : goal.fits-requires
fits-requires c = search (last-most, rules)

pub put_line-n-requires-clause-last_in_bounds : goal.put_line-n-requires-clause-last_in_bounds
put_line-n-requires-clause-last_in_bounds c = search (print_room, rules)

pub returns-then-fits : goal.returns-then-fits
returns-then-fits c = search (write_called, print_written, print_out, rules)

pub line_len-needed-requires : goal.line_len-needed-requires
line_len-needed-requires c = search (last-most, rules)

pub returns-then-is_inside : goal.returns-then-is_inside
returns-then-is_inside c = search (write_called, print_short, print_kept, rules)

pub returns : goal.returns
returns c = search (write_called, print_outside, print_left, rules)
