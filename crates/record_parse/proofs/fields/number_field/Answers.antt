use Rattle.record_parse.proofs.FieldLaws.{short_told, short_room}
use Rattle.record_parse.proofs.fields.number_field.Goals as goal

pub field_of-requires : goal.field_of-requires
field_of-requires c = short_room _ _ c.requires.short_read _ c.in-Some.is c.requires.rest_bound

pub returns-in-Some : goal.returns-in-Some
returns-in-Some c = short_told _ _ c.requires.short_read _ c.in-Some.is _ _ c.requires.le_max c.field_of.ensures
