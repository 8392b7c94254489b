-- `filter::keep_functions` meets its contract: sorted, those with a start, and then those that are held. Assumes nothing.
use Rattle.std.proofs.Common.{take}
use Rattle.line_num_pairs.specs.Pairs.{ranges_in}
use Rattle.filter.proofs.RowsLaws.{order-behind, functions-held}
use Rattle.filter.proofs.keep_functions.Goals as goal

pub keep-started-requires-clause-behind : goal.keep-started-requires-clause-behind
keep-started-requires-clause-behind c = (c.args.text.now, order-behind c.requires.0 c.sort_functions.ensures c.sort_functions.auto.words)

pub keep-requires-clause-behind : goal.keep-requires-clause-behind
keep-requires-clause-behind c =
    (c.args.text.now, c.keep-started.ensures.rows c.args.text.now (order-behind c.requires.0 c.sort_functions.ensures c.sort_functions.auto.words))

pub returns-clause-rows : goal.returns-clause-rows
returns-clause-rows c =
    functions-held c.requires.0 c.sort_functions.ensures c.sort_functions.auto.words c.args.bound (take c.args.count (ranges_in c.args.pairs.now))
    c.keep-started.ensures c.keep.ensures
