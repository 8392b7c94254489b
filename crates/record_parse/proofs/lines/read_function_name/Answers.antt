use Rattle.std.proofs.Common.{rules}
use Rattle.model.specs.Line.{read_body}
use Rattle.record_parse.proofs.FieldLaws.{first_field}
use Rattle.record_parse.proofs.LineLaws.{second_field, function_read, more_then, more_up, asks_text}
use Rattle.record_parse.proofs.lines.read_function_name.Goals as goal

pub returns-in_default : goal.returns-in_default
unfolding read_body
returns-in_default c =
    more_up (first_field _ _ c.requires) c.number_field-first.ensures _ _ (search rules) (search rules) (asks_text _ _ _)

pub returns : goal.returns
unfolding read_body
returns c =
    let here = first_field _ _ c.requires in
    let seen = c.number_field-first.ensures in
    let is = c.in-More.is in
    more_then here seen _ _ _ _ is (function_read (second_field _ seen _ _ is here) _ _ c.read_function.ensures)
