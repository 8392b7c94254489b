-- `report_parser::read_line_at` meets its contract: one law for each way out. Assumes nothing.
use Rattle.std.proofs.Common.{refl}
use Rattle.report_parser.proofs.LineLaws.{line-end, record_at, done_refused, done_step, done_next}
use Rattle.report_parser.proofs.read_line_at.Goals as goal

pub step-requires : goal.step-requires
step-requires c =
    let h = c.requires.holds_state in
    (h.0, line-end c.args.text.now c.args.at c.first_line_len-len.result h.1 c.first_line_len-len.ensures.1, record_at _ _ _ _ c.read_record-got.result c.in-Ok.made c.in-Ok.is c.read_record-got.ensures)

pub returns-in-Ok-step : goal.returns-in-Ok-step
returns-in-Ok-step c =
    let l = c.first_line_len-len.ensures in
    done_next _ _ _ _ c.read_record-got.result c.read_record-got.ensures _ _ _ _ _ c.requires.holds_state.1 l.0 l.1 c.in-Ok.made c.in-Ok.is
    c.step.new.words c.step.result c.step.ensures c.in-Ok-step.after c.in-Ok-step.is

pub returns-in-Err : goal.returns-in-Err
returns-in-Err c =
    let l = c.first_line_len-len.ensures in
    done_step _ _ _ _ c.read_record-got.result c.read_record-got.ensures _ _ _ _ _ c.requires.holds_state.1 l.0 l.1 c.in-Ok.made c.in-Ok.is
    c.step.new.words c.step.result c.step.ensures _ c.in-Err.is c.fault_at.ensures

pub returns-in_default : goal.returns-in_default
returns-in_default c =
    let l = c.first_line_len-len.ensures in
    rw (c.refused_line.ensures c.in_default.field-0 c.in_default.is) (done_refused _ _ _ _ c.read_record-got.result c.read_record-got.ensures _ _ _ _ _ c.requires.holds_state.1 l.0 l.1 _ c.in_default.is refl)
