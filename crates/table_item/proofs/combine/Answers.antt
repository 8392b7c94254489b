-- `table_item::combine` meets its contract: one law for each way out. Assumes nothing.
use Rattle.std.proofs.Common.{arith, rules}
use Rattle.table_item.proofs.CountLaws.{combined_other, combined_sum, combined_past}
use Rattle.table_item.proofs.combine.Goals as goal

pub returns-then-old-ne-FUNCTION-clause-item : goal.returns-then-old-ne-FUNCTION-clause-item
returns-then-old-ne-FUNCTION-clause-item c text = combined_other text c.args.old c.args.row c.args.accumulate (omega arith)

pub returns-in_err-count-clause-item : goal.returns-in_err-count-clause-item
returns-in_err-count-clause-item c text =
    rw c.from_residual.ensures (combined_past text c.args.old c.args.row c.args.accumulate (search rules) (omega arith) c.requires (omega (arith, c.in_err-count.ensures)))

pub returns-clause-item : goal.returns-clause-item
returns-clause-item c text =
    let e = c.in_ok-count.ensures in
    rw e.1 (combined_sum text c.args.old c.args.row c.args.accumulate (search rules) (omega arith) c.requires (omega (arith, e.0)))
