-- `window_lines::is_in_window` meets its contract. Assumes nothing.
use Rattle.std.proofs.Common.{rules}
use Rattle.window_lines.proofs.WindowLaws.{earlier-text, other_text}
use Rattle.window_lines.proofs.is_in_window.Goals as goal

pub returns-then-j-i : goal.returns-then-j-i
returns-then-j-i c = search (earlier-text, rules)

pub returns-else-j-i : goal.returns-else-j-i
returns-else-j-i c = search (other_text, rules)
