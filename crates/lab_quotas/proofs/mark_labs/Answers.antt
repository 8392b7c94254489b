-- `lab_quotas::mark_labs` meets its contract: the marks of the labs before a place are put. Assumes nothing.
use Rattle.std.proofs.Common.{rules}
use Rattle.lab_quotas.proofs.LabLaws.{labs_count, quota_inside}
use Rattle.lab_quotas.proofs.MarkLaws.{marks-start, marks-next}
use Rattle.lab_quotas.proofs.mark_labs.Goals as goal

pub loop-i-init : goal.loop-i-init
loop-i-init c = search (marks-start, rules)

pub bounds-quotas-i : goal.bounds-quotas-i
bounds-quotas-i c = search (quota_inside, rules)

pub gather_lab-mark-requires : goal.gather_lab-mark-requires
gather_lab-mark-requires c = record { bundle_value = (search rules, search (labs_count, rules)) }

pub loop-i-preserved : goal.loop-i-preserved
loop-i-preserved c = search (marks-next, rules)
