use Rattle.std.proofs.Common.{rules}
use Rattle.model.specs.Line.{read_body}
use Rattle.record_parse.proofs.FieldLaws.{first_field}
use Rattle.record_parse.proofs.LineLaws.{line-laws, more_up, asks_text}
use Rattle.record_parse.proofs.lines.read_function_data.Goals as goal

pub returns-in_default : goal.returns-in_default
unfolding read_body
returns-in_default c =
    more_up (first_field _ _ c.requires) c.number_field-first.ensures _ _ (search rules) (search rules) (asks_text _ _ _)

pub returns : goal.returns
unfolding read_body
returns c = search (line-laws, rules) depth 24 fits 20000
