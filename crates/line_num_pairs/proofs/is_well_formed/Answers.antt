-- `line_num_pairs::is_well_formed` meets its contract. Assumes nothing.
use Rattle.std.proofs.Common.{rules}
use Rattle.line_num_pairs.proofs.WellLaws.{well_short, well_start, well_low, well_turned, well_next, well_done}
use Rattle.line_num_pairs.proofs.is_well_formed.Goals as goal

pub returns-then-pairs-used : goal.returns-then-pairs-used
returns-then-pairs-used c = search (well_short, rules)

pub loop-k-init : goal.loop-k-init
loop-k-init c = search (well_start, rules)

pub returns-then-range-least : goal.returns-then-range-least
returns-then-range-least c = search (well_low, rules)

pub returns-then-range : goal.returns-then-range
returns-then-range c = search (well_turned, rules)

pub loop-k-preserved : goal.loop-k-preserved
loop-k-preserved c = search (well_next, rules)

pub returns : goal.returns
returns c = search (well_done, rules)
