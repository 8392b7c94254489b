-- `filter::keep_rows` meets its contract, run after run. Assumes nothing.
use Rattle.std.proofs.Common.{take}
use Rattle.line_num_pairs.specs.Pairs.{ranges_in}
use Rattle.print_report.proofs.TableLaws.{run-functions}
use Rattle.filter.proofs.RowsLaws.{branches_ready, lines_ready, rows-kept}
use Rattle.filter.proofs.keep_rows.Goals as goal

pub keep_functions-functions-requires : goal.keep_functions-functions-requires
keep_functions-functions-requires c = (run-functions c.requires.0 c.requires.1.functions, c.requires.2)

pub keep_held-branches-requires-clause-behind : goal.keep_held-branches-requires-clause-behind
keep_held-branches-requires-clause-behind c =
    let ε = c.keep_functions-functions.ensures in
    (c.args.text.now, branches_ready c.requires.0 c.requires.1 c.args.bound (take c.args.count (ranges_in c.args.pairs.now)) ε.most ε.spared ε.rows)

pub keep_held-lines-requires-clause-behind : goal.keep_held-lines-requires-clause-behind
keep_held-lines-requires-clause-behind c =
    let ε = c.keep_functions-functions.ensures in
    (c.args.text.now, lines_ready c.requires.0 c.requires.1 c.args.bound (take c.args.count (ranges_in c.args.pairs.now)) ε.most ε.spared ε.rows c.keep_held-branches.ensures)

pub returns : goal.returns
returns c =
    let ε = c.keep_functions-functions.ensures in
    rows-kept c.requires.0 c.requires.1 c.args.bound (take c.args.count (ranges_in c.args.pairs.now)) ε.most ε.spared ε.rows c.keep_held-branches.ensures c.keep_held-lines.ensures
