-- `put::sep_after` meets its contract. Assumes nothing.
use Rattle.std.proofs.Common.{rules}
use Rattle.record_display.proofs.FieldLaws.{sep_first, sep_later}
use Rattle.record_display.proofs.put.sep_after.Goals as goal

pub returns-then-count-eq0 : goal.returns-then-count-eq0
returns-then-count-eq0 c = search (sep_first, rules)

pub returns : goal.returns
returns c = search (sep_later, rules)
