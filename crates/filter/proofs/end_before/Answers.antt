-- `filter::end_before` meets its contract. Assumes nothing.
use Rattle.std.proofs.Common.{arith}
use Rattle.filter.proofs.ItemLaws.{end-last, end-zero, end-one}
use Rattle.filter.proofs.end_before.Goals as goal

pub returns-then-n-eq0 : goal.returns-then-n-eq0
returns-then-n-eq0 c text = end-last text c.args.words.now c.args.next c.args.n (omega arith)

pub returns-then-start-eq0 : goal.returns-then-start-eq0
returns-then-start-eq0 c text =
    end-zero text c.args.words.now c.args.next c.args.n c.read_row.result c.read_row.ensures c.start_line-start.result
    (c.start_line-start.ensures text) (omega arith) (omega arith)

pub returns : goal.returns
returns c text =
    end-one text c.args.words.now c.args.next c.args.n c.read_row.result c.read_row.ensures c.start_line-start.result
    (c.start_line-start.ensures text) (omega arith)
