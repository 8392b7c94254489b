-- `lab_quotas::gather_marked_labs` meets its contract. Assumes nothing.
use Rattle.std.proofs.Common.{rules}
use Rattle.lab_quotas.proofs.LabLaws.{labs_count, labs_all}
use Rattle.lab_quotas.proofs.JointLaws.{joint-gathered}
use Rattle.lab_quotas.proofs.gather_marked_labs.Goals as goal

pub gather_let_in-requires : goal.gather_let_in-requires
gather_let_in-requires c = record { bundle_value = (search rules, search (labs_count, rules), search (labs_all, rules), search rules) }

pub returns-clause-joint : goal.returns-clause-joint
returns-clause-joint c = joint-gathered _ _ _ _ c.requires.bundle_value.1 _ c.args.marks.now _ c.requires.bundle_value.2 c.mark_labs.ensures _ (search rules) _ _ c.gather_let_in.ensures
