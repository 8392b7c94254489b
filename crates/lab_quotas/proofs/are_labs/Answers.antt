-- `lab_quotas::are_labs` meets its contract. Assumes nothing.
use Rattle.std.proofs.Common.{rules}
use Rattle.lab_quotas.proofs.LabLaws.{other-count, other_lab, same_labs}
use Rattle.lab_quotas.proofs.are_labs.Goals as goal

pub returns-then-labs-text_count : goal.returns-then-labs-text_count
returns-then-labs-text_count c = search (other-count, rules)

pub returns-then-all_labs : goal.returns-then-all_labs
returns-then-all_labs c = search (same_labs, rules)

pub returns : goal.returns
returns c = search (other_lab, rules)
