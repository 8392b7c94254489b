-- `print_totals::put_share` meets its contract. Assumes nothing.
use Rattle.std.proofs.Common.{rules}
use Rattle.print_totals.proofs.ColumnLaws.{dash_len, dash_out, tenths_room, tenths_len, tenths_out}
use Rattle.print_totals.proofs.put_share.Goals as goal

pub returns-then-lines-eq0 : goal.returns-then-lines-eq0
returns-then-lines-eq0 c = search (dash_len, dash_out, rules)

pub put_number-requires : goal.put_number-requires
put_number-requires c = search (tenths_room, rules)

pub returns : goal.returns
returns c = search (tenths_len, tenths_out, rules)
