-- Each number that is read is followed by the next field; the places below are those after the first, second and third number.
use Rattle.std.proofs.Common.{rules}
use Rattle.model.specs.Line.{read_body}
use Rattle.record_parse.proofs.FieldLaws.{first_field}
use Rattle.record_parse.proofs.LineLaws.{second_field, third_field, fourth_field, more_then, more_up, asks_number, asks_taken, taken_read}
use Rattle.record_parse.proofs.lines.read_branch_data.Goals as goal

pub returns-in_default : goal.returns-in_default
unfolding read_body
returns-in_default c =
    more_up (first_field _ _ c.requires) c.number_field-first.ensures _ _ (search rules) (search rules) (asks_number _ _ _ _)

pub returns-in_default-second : goal.returns-in_default-second
unfolding read_body
returns-in_default-second c =
    let first = first_field _ _ c.requires in
    let second = second_field _ c.number_field-first.ensures _ _ c.in-More.is first in
    more_then first c.number_field-first.ensures _ _ _ _ c.in-More.is
    (more_up second c.number_field-second.ensures _ _ (search rules) (search rules) (asks_number _ _ _ _))

pub returns-in_default-third : goal.returns-in_default-third
unfolding read_body
returns-in_default-third c =
    let first = first_field _ _ c.requires in
    let second = second_field _ c.number_field-first.ensures _ _ c.in-More.is first in
    let third = third_field _ c.number_field-second.ensures _ _ c.in-More-second.is second in
    more_then first c.number_field-first.ensures _ _ _ _ c.in-More.is
    (more_then second c.number_field-second.ensures _ _ _ _ c.in-More-second.is
    (more_up third c.number_field-third.ensures _ _ (search rules) (search rules) (asks_taken _ _ _ _)))

pub returns : goal.returns
unfolding read_body
returns c =
    let first = first_field _ _ c.requires in
    let second = second_field _ c.number_field-first.ensures _ _ c.in-More.is first in
    let third = third_field _ c.number_field-second.ensures _ _ c.in-More-second.is second in
    let fourth = fourth_field _ c.number_field-third.ensures _ _ c.in-More-third.is third in
    more_then first c.number_field-first.ensures _ _ _ _ c.in-More.is
    (more_then second c.number_field-second.ensures _ _ _ _ c.in-More-second.is
    (more_then third c.number_field-third.ensures _ _ _ _ c.in-More-third.is
    (taken_read fourth _ _ _ _ c.read_taken.ensures)))
