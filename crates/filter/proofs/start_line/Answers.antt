-- `filter::start_line` meets its contract. Assumes nothing.
use Rattle.std.proofs.Common.{arith}
use Rattle.filter.proofs.ItemLaws.{start_none, start_is, start_fits}
use Rattle.filter.proofs.start_line.Goals as goal

pub returns-then-key-eq0 : goal.returns-then-key-eq0
returns-then-key-eq0 c text = start_none text _ _ (c.start_key-key.ensures text) (omega arith)

pub overflow_cast-result : goal.overflow_cast-result
overflow_cast-result c = start_fits c.requires.0 c.args.row _ (c.start_key-key.ensures c.requires.0) (omega arith) c.requires.1

pub returns : goal.returns
returns c text = start_is text _ _ (c.start_key-key.ensures text) (omega arith)
