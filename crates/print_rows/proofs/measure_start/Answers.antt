-- `print_rows::measure_start` meets its contract. Assumes nothing.
use Rattle.print_rows.proofs.LengthLaws.{past-start}
use Rattle.print_rows.proofs.measure_start.Goals as goal

pub returns : goal.returns
returns c = λ text g.
    past-start _ text c.args.row g c.args.at _ c.args.start (c.requires text) c.end_line.result (c.end_line.ensures text) _ c.tag_len-tag.ensures.0 _ _ _
    c.decimal_len.ensures.0 c.end_len.ensures.0 c.saturating_add.ensures c.saturating_add-2.ensures
