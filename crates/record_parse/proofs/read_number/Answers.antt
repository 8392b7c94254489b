use Rattle.std.proofs.Common.{rules}
use Rattle.record_parse.proofs.NumberLaws.{comma_first, field_read, field_comma, field_refused}
use Rattle.record_parse.proofs.read_number.Goals as goal

pub returns-then-starts_with : goal.returns-then-starts_with
returns-then-starts_with c = search (comma_first, rules)

pub returns-in-Ok-Last : goal.returns-in-Ok-Last
returns-in-Ok-Last c = search (field_read, rules)

pub returns-in-Ok-More : goal.returns-in-Ok-More
returns-in-Ok-More c = search (field_comma, rules)

pub returns-in-Err : goal.returns-in-Err
returns-in-Err c = search (field_refused, rules)
