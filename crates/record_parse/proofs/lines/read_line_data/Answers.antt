use Rattle.std.proofs.Common.{rules}
use Rattle.model.specs.Line.{read_body}
use Rattle.record_parse.proofs.FieldLaws.{first_field}
use Rattle.record_parse.proofs.LineLaws.{line-laws, more_up, asks_number}
use Rattle.record_parse.proofs.lines.read_line_data.Goals as goal

pub returns-in_default : goal.returns-in_default
unfolding read_body
returns-in_default c =
    more_up (first_field _ _ c.requires) c.number_field-first.ensures _ _ (search rules) (search rules) (asks_number _ _ _ _)

pub returns-in-Last : goal.returns-in-Last
unfolding read_body
returns-in-Last c = search (line-laws, rules) depth 24 fits 20000

pub returns-in-More-second : goal.returns-in-More-second
unfolding read_body
returns-in-More-second c = search (line-laws, rules) depth 24 fits 20000

pub returns-in-Fault : goal.returns-in-Fault
unfolding read_body
returns-in-Fault c = search (line-laws, rules) depth 24 fits 20000
