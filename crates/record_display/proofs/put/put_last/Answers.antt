use Rattle.std.proofs.Common.{rules}
use Rattle.record_display.proofs.FieldLaws.{dash_room, end_fits, end-within, text-room, nothing_len, nothing_out, dash_len, dash_out, text-length, text_out}
use Rattle.record_display.proofs.put.put_last.Goals as goal

pub put_text-requires : goal.put_text-requires
put_text-requires c = search (dash_room, rules)

pub overflow_add-end : goal.overflow_add-end
overflow_add-end c = search (end_fits, rules)

pub slice_bounds-put_text-end-in-Text : goal.slice_bounds-put_text-end-in-Text
slice_bounds-put_text-end-in-Text c = search (end-within, rules)

pub put_text-requires-in-Text : goal.put_text-requires-in-Text
put_text-requires-in-Text c = search (text-room, rules)

pub returns-in-Nothing : goal.returns-in-Nothing
returns-in-Nothing c = search (nothing_len, nothing_out, rules)

pub returns-in-Dash : goal.returns-in-Dash
returns-in-Dash c = search (dash_len, dash_out, rules)

pub returns-in-Text : goal.returns-in-Text
returns-in-Text c = search (text-length, text_out, rules)
