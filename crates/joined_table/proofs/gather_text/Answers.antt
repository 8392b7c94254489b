-- `joined_table::gather_text` meets its contract. Assumes nothing.
use Rattle.std.proofs.Common.{rules}
use Rattle.merge.proofs.PartLaws.{lent-part, lent_size}
use Rattle.joined_table.proofs.OneLaws.{base_inside}
use Rattle.joined_table.proofs.GatherLaws.{space-same, front-refused, front-joined, joining_none, text_again}
use Rattle.joined_table.proofs.gather_text.Goals as goal

pub returns-in-Err : goal.returns-in-Err
returns-in-Err c = search (front-refused, rules)

pub returns-then-read : goal.returns-then-read
returns-then-read c = search (front-joined, lent-part, base_inside, rules)

pub gather_behind-requires : goal.gather_behind-requires
gather_behind-requires c = record {
  texts_inside = (search rules, search rules, search (space-same, lent_size, base_inside, rules), search (joining_none, space-same, lent_size, base_inside, rules));
}

pub returns-in-Ok : goal.returns-in-Ok
returns-in-Ok c = search (text_again, rules)
