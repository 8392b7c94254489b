-- `put::head_len` meets its contract. Assumes nothing.
use Rattle.std.proofs.Common.{rules}
use Rattle.record_display.proofs.FieldLaws.{head_len}
use Rattle.record_display.proofs.put.head_len.Goals as goal

pub returns : goal.returns
returns c = search (head_len, rules)
