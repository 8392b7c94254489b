use Rattle.std.proofs.Common.{rules}
use Rattle.compare.proofs.PlaceLaws.{passed-step, passed-found, passed-all}
use Rattle.compare.proofs.path.next_component.Goals as goal

pub returns-then-is_component : goal.returns-then-is_component
returns-then-is_component c = search (passed-found, rules)

pub loop-p-preserved : goal.loop-p-preserved
loop-p-preserved c = search (passed-step, rules)

pub returns : goal.returns
returns c = search (passed-all, rules)
