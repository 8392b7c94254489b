use Rattle.std.proofs.Common.{rules}
use Rattle.record_display.proofs.FieldLaws.{len_next, len_end}
use Rattle.record_display.proofs.put.numbers_len.Goals as goal

pub loop-i-preserved : goal.loop-i-preserved
loop-i-preserved c = search (len_next, rules)

pub returns : goal.returns
returns c = search (len_end, rules)
