-- `print_rows::end_len` meets its contract. Assumes nothing.
use Rattle.std.proofs.Common.{rules}
use Rattle.print_rows.proofs.LentLaws.{end-given, end_absent}
use Rattle.print_rows.proofs.end_len.Goals as goal

pub returns-in-Some : goal.returns-in-Some
returns-in-Some c = search (end-given, rules)

pub returns-in-None : goal.returns-in-None
returns-in-None c = search (end_absent, rules)
