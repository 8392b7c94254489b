-- `window_lines::put_line` meets its contract. Assumes nothing.
use Rattle.std.proofs.Common.{rules}
use Rattle.window_lines.proofs.LineLaws.{made-room, made-end, made-fits, line-end, line_len, line-out}
use Rattle.window_lines.proofs.put_line.Goals as goal

pub put_pair-n-requires : goal.put_pair-n-requires
put_pair-n-requires c = search (made-room, rules)

pub bounds-line-n : goal.bounds-line-n
bounds-line-n c = search (made-end, rules)

pub overflow_add-end : goal.overflow_add-end
overflow_add-end c = search (made-fits, rules)

pub slice_bounds-put_bytes-end : goal.slice_bounds-put_bytes-end
slice_bounds-put_bytes-end c = search (line-end, rules)

pub returns : goal.returns
returns c = (search (line_len, rules), search (line-out, rules))
