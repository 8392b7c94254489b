use Rattle.std.proofs.Common.{rules}
use Rattle.record_display.proofs.FieldLaws.{putting_room, putting_fits, putting_len, putting_end}
use Rattle.record_display.proofs.put.put_numbers.Goals as goal

pub put_number-n-requires : goal.put_number-n-requires
put_number-n-requires c = search (putting_room, rules)

pub overflow_add-at : goal.overflow_add-at
overflow_add-at c = search (putting_fits, rules)

pub returns : goal.returns
returns c = search (putting_len, putting_end, rules)
