-- `window_lines::write_bytes` meets its contract. Assumes nothing.
use Rattle.std.proofs.Common.{rules}
use Rattle.window_lines.proofs.LineLaws.{bytes-short, bytes-written}
use Rattle.window_lines.proofs.write_bytes.Goals as goal

pub returns-then-out-bytes : goal.returns-then-out-bytes
returns-then-out-bytes c = search (bytes-short, rules)

pub returns : goal.returns
returns c = search (bytes-written, rules)
