-- `fields::last_len` meets its contract. Assumes nothing.
use Rattle.std.proofs.Common.{rules}
use Rattle.record_display.proofs.FieldLaws.{nothing_len, dash_len, text-fits, text_len}
use Rattle.record_display.proofs.fields.last_len.Goals as goal

pub overflow_add-result : goal.overflow_add-result
overflow_add-result c = search (text-fits, rules)

pub returns-in-Nothing : goal.returns-in-Nothing
returns-in-Nothing c = search (nothing_len, rules)

pub returns-in-Dash : goal.returns-in-Dash
returns-in-Dash c = search (dash_len, rules)

pub returns-in-Text : goal.returns-in-Text
returns-in-Text c = search (text_len, rules)
