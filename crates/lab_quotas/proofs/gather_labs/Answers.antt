-- `lab_quotas::gather_labs` meets its contract. Assumes nothing.
use Rattle.std.proofs.Common.{rules}
use Rattle.joined_table.proofs.BundleLaws.{bundle_sized}
use Rattle.lab_quotas.proofs.JointLaws.{no_bundle, no_labs, labs_marked, labs_unmarked}
use Rattle.lab_quotas.proofs.gather_labs.Goals as goal

pub are_labs-requires : goal.are_labs-requires
are_labs-requires c = search (bundle_sized, rules)

pub returns-then-marks-lt-MARKS : goal.returns-then-marks-lt-MARKS
returns-then-marks-lt-MARKS c = search (labs_unmarked, rules)

pub returns-then-are_labs : goal.returns-then-are_labs
returns-then-are_labs c = search (labs_marked, rules)

pub returns-then-is_well_formed : goal.returns-then-is_well_formed
returns-then-is_well_formed c = search (no_labs, rules)

pub returns : goal.returns
returns c = search (no_bundle, rules)
