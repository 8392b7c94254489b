-- `lab_quotas::gather_let_in` meets its contract. Assumes nothing.
use Rattle.std.proofs.Common.{rules}
use Rattle.bundle.proofs.BundleLaws.{well_sized, well_few}
use Rattle.joined_table.proofs.BundleLaws.{few-texts, texts-inside}
use Rattle.lab_quotas.proofs.JointLaws.{let_in_gathered}
use Rattle.lab_quotas.proofs.gather_let_in.Goals as goal

pub mark_let_in-requires : goal.mark_let_in-requires
mark_let_in-requires c = (search rules, search rules, search (few-texts, rules))

pub body_at-body-requires : goal.body_at-body-requires
body_at-body-requires c = (search (well_sized, rules), search (well_few, rules))

pub gather_marked-requires : goal.gather_marked-requires
gather_marked-requires c = record { texts_inside = search (texts-inside, rules) }

pub returns : goal.returns
returns c = search (let_in_gathered, rules)
