-- `lab_quotas::all_labs` meets its contract. Assumes nothing.
use Rattle.std.proofs.Common.{rules, arith}
use Rattle.lab_quotas.proofs.LabLaws.{every_lab, no_such_lab}
use Rattle.lab_quotas.proofs.all_labs.Goals as goal

pub returns : goal.returns
returns c = search (every_lab, rules)

pub returns-then-not-is_lab : goal.returns-then-not-is_lab
returns-then-not-is_lab c = no_such_lab c.args.labs.now c.loop-lab.lab-index (omega arith) c.is_lab.result c.is_lab.ensures (cc)
