use Rattle.std.proofs.Common.{rules}
use Rattle.format.proofs.PowerLaws.{taken_none, taken_next, taken-all}
use Rattle.format.proofs.digit_of.Goals as goal

pub loop-rest-init : goal.loop-rest-init
loop-rest-init c = search (taken_none, rules)

pub loop-rest-preserved : goal.loop-rest-preserved
loop-rest-preserved c = search (taken_next, rules)

pub returns : goal.returns
returns c = search (taken-all, rules)
