use Rattle.std.proofs.Common.{rules}
use Rattle.record_display.proofs.FieldLaws.{inside-laws}
use Rattle.record_display.proofs.fields.is_inside.Goals as goal

pub returns-in-Nothing : goal.returns-in-Nothing
returns-in-Nothing c = search (inside-laws, rules)

pub returns-in-Dash : goal.returns-in-Dash
returns-in-Dash c = search (inside-laws, rules)

pub returns-then-start-n : goal.returns-then-start-n
returns-then-start-n c = search (inside-laws, rules)

pub returns-else-start-n : goal.returns-else-start-n
returns-else-start-n c = search (inside-laws, rules)
