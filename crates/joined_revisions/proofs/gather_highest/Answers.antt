-- `joined_revisions::gather_highest` meets its contract. Assumes nothing.
use Rattle.std.proofs.Common.{rules}
use Rattle.joined_revisions.proofs.HighestLaws.{texts-inside, repeat_refused, highest-gathered, ill_refused}
use Rattle.joined_revisions.proofs.gather_highest.Goals as goal

pub returns-then-repeat-text_count : goal.returns-then-repeat-text_count
returns-then-repeat-text_count c = search (repeat_refused, rules)

pub gather_marked-requires : goal.gather_marked-requires
gather_marked-requires c = record { texts_inside = search (texts-inside, rules) }

pub returns-then-is_well_formed : goal.returns-then-is_well_formed
returns-then-is_well_formed c = search (highest-gathered, rules)

pub returns : goal.returns
returns c = search (ill_refused, rules)
