-- `print_rows::hit_of` meets its contract. Assumes nothing.
use Rattle.std.proofs.Common.{rules}
use Rattle.print_rows.proofs.LentLaws.{no_count, section-count, untaken_count, hit-count}
use Rattle.print_rows.proofs.hit_of.Goals as goal

pub returns-then-row-eq0 : goal.returns-then-row-eq0
returns-then-row-eq0 c = search (no_count, rules)

pub returns-then-row : goal.returns-then-row
returns-then-row c = search (section-count, rules)

pub returns-then-row-2 : goal.returns-then-row-2
returns-then-row-2 c = search (untaken_count, rules)

pub returns : goal.returns
returns c = search (hit-count, rules)
