-- `put::put_text` meets its contract. Assumes nothing.
use Rattle.std.proofs.Common.{rules}
use Rattle.format.proofs.OverLaws.{next_len, next_fits, over-next}
use Rattle.record_display.proofs.put.put_text.Goals as goal

pub overflow_add-result : goal.overflow_add-result
overflow_add-result c = search (next_fits, rules)

pub returns : goal.returns
returns c = search (next_len, over-next, rules)
