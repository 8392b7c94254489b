-- `lab_quotas::mark_let_in` meets its contract. Assumes nothing.
use Rattle.std.proofs.Common.{rules}
use Rattle.lab_quotas.proofs.LabLaws.{is-a_lab}
use Rattle.lab_quotas.proofs.mark_let_in.Goals as goal

pub is_let_in-requires : goal.is_let_in-requires
is_let_in-requires c = (search (is-a_lab, rules), search rules)
