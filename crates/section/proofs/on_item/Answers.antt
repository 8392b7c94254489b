-- `section::on_item` meets its contract: rows are made ready, and the answer of `section_tail::add_row`, counted, is the step's. Assumes nothing.
use Rattle.std.proofs.Common.{◌<◌, ◌∙◌, arith}
use Rattle.section.proofs.StateLaws.{next_as, open_as, flushed_there, flushed_emptied}
use Rattle.section.proofs.ItemLaws.{adding_as, flushed_as, added_none, header-free, line_open, line-next, line-past, line_refused}
use Rattle.section.proofs.on_item.Goals as goal

pub returns-then-is_full : goal.returns-then-is_full
returns-then-is_full c = added_none c.requires.0 c.args.row c.args.accumulate (omega arith)

pub add_row-requires-clause-open_section : goal.add_row-requires-clause-open_section
add_row-requires-clause-open_section c =
    let h = c.reserve_row-header_used in
    let u = c.reserve_row-used in
    let ζ = c.requires.0 in
    let kept : c.args.state.kept < h.result = header-free ζ.space h.ensures (omega arith) in
    (open_as c.capacity.ensures (line_open ζ h.ensures h.auto.words kept u.ensures u.auto.words), c.requires.1, c.requires.2)

pub returns-then-end-most : goal.returns-then-end-most
returns-then-end-most c =
    let h = c.reserve_row-header_used in
    let u = c.reserve_row-used in
    let ζ = c.requires.0 in
    let kept : c.args.state.kept < h.result = header-free ζ.space h.ensures (omega arith) in
    let α = adding_as c.in-Ok.is c.capacity.ensures c.add_row.ensures in
    next_as c.with_open.ensures
    (line-next ζ h.ensures h.auto.words kept u.ensures u.auto.words c.args.row c.args.accumulate α (flushed_there α.still (omega arith)) (omega arith) c.add_row.auto.words)

pub returns-then-is_past : goal.returns-then-is_past
returns-then-is_past c =
    let h = c.reserve_row-header_used in
    let u = c.reserve_row-used in
    let ζ = c.requires.0 in
    let kept : c.args.state.kept < h.result = header-free ζ.space h.ensures (omega arith) in
    let e = c.capacity.ensures in
    line-past ζ h.ensures h.auto.words kept u.ensures u.auto.words c.args.row c.args.accumulate
    (adding_as c.in-Ok.is e c.add_row.ensures) (flushed_as e (flushed_emptied _ c.flush_midway-all.ensures)) (omega (arith, c.flush_midway-all.ensures.none))

pub returns-else-is_past : goal.returns-else-is_past
returns-else-is_past c =
    let h = c.reserve_row-header_used in
    let u = c.reserve_row-used in
    let ζ = c.requires.0 in
    let kept : c.args.state.kept < h.result = header-free ζ.space h.ensures (omega arith) in
    let e = c.capacity.ensures in
    next_as c.with_open-in-Ok.ensures
    (line-next ζ h.ensures h.auto.words kept u.ensures u.auto.words c.args.row c.args.accumulate
    (adding_as c.in-Ok.is e c.add_row.ensures) (flushed_as e (flushed_emptied _ c.flush_midway-all.ensures)) (omega (arith, c.flush_midway-all.ensures.none))
    (c.flush_midway-all.auto.words ∙ c.add_row.auto.words))

pub returns-in-Err : goal.returns-in-Err
returns-in-Err c =
    let h = c.reserve_row-header_used in
    let u = c.reserve_row-used in
    let ζ = c.requires.0 in
    let kept : c.args.state.kept < h.result = header-free ζ.space h.ensures (omega arith) in
    line_refused ζ h.ensures h.auto.words kept u.ensures u.auto.words c.args.row c.args.accumulate
    _ (adding_as c.in-Err.is c.capacity.ensures c.add_row.ensures)
