-- `lab_quotas::gather_lab` meets its contract. Assumes nothing.
use Rattle.std.proofs.Common.{rules}
use Rattle.bundle.proofs.BundleLaws.{well_sized, well_few}
use Rattle.joined_table.proofs.BundleLaws.{few-texts, texts-inside}
use Rattle.lab_quotas.proofs.GatherLaws.{refused-inside, mark_refused, mark_counted}
use Rattle.lab_quotas.proofs.gather_lab.Goals as goal

pub mark_lab-requires : goal.mark_lab-requires
mark_lab-requires c = search (few-texts, rules)

pub body_at-body-requires : goal.body_at-body-requires
body_at-body-requires c = (search (well_sized, rules), search (well_few, rules))

pub gather_marked-requires : goal.gather_marked-requires
gather_marked-requires c = record { texts_inside = search (texts-inside, rules) }

pub in_lab-requires : goal.in_lab-requires
in_lab-requires c = (refused-inside _ _ c.args.labs.now c.requires.bundle_value.1 c.args.lab _ c.mark_lab.new.chosen _ c.body_at-body.ensures c.mark_lab.ensures _ _ c.gather_marked.ensures _ c.in-Err.is, few-texts _ c.requires.bundle_value.0 _ c.requires.bundle_value.1)

pub returns-in-Err : goal.returns-in-Err
returns-in-Err c = mark_refused _ _ c.args.labs.now c.requires.bundle_value.1 c.args.lab _ c.mark_lab.new.chosen _ c.body_at-body.ensures c.mark_lab.ensures _ _ c.gather_marked.ensures _ c.in-Err.is _ _ c.in_lab.ensures

pub returns-in-Ok : goal.returns-in-Ok
returns-in-Ok c = mark_counted _ _ c.args.labs.now c.requires.bundle_value.1 c.args.lab _ c.mark_lab.new.chosen _ c.body_at-body.ensures c.mark_lab.ensures _ _ c.gather_marked.ensures _ c.in-Ok.is _ _ c.mark_entries.ensures
