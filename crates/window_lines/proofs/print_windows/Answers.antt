-- `window_lines::print_windows` meets its contract. Assumes nothing.
use Rattle.std.proofs.Common.{rules}
use Rattle.window_lines.proofs.LineLaws.{no_width, no_bundle}
use Rattle.window_lines.proofs.print_windows.Goals as goal

pub returns-then-is_well_formed : goal.returns-then-is_well_formed
returns-then-is_well_formed c = search (no_width, rules)

pub returns : goal.returns
returns c = search (no_bundle, rules)
