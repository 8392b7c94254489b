-- `print_rows::emit_start` meets its contract. Assumes nothing.
use Rattle.std.proofs.Common.{arith, sym, ◌∙◌}
use Rattle.print_rows.proofs.EmitLaws.{room_as, emitted_as, emitted_empty, emitted-past}
use Rattle.print_rows.proofs.LentLaws.{key-start, start-line, no_start, start_fits}
use Rattle.print_rows.proofs.emit_start.Goals as goal

pub returns-then-key-eq0 : goal.returns-then-key-eq0
returns-then-key-eq0 c =
    emitted_empty _ _ _ _ (omega arith) (no_start _ _ _ (sym (c.start_key-key.ensures c.args.text.now) ∙ c.if-key-eq0.true))

pub overflow_cast-record : goal.overflow_cast-record
overflow_cast-record c =
    let text = c.args.text.now in
    start_fits text c.args.row _ (key-start (c.start_key-key.ensures text) c.if-key-eq0.false) c.requires.item_in_bounds.1

pub emit_record-requires : goal.emit_record-requires
emit_record-requires c =
    let a = c.args in
    let key = key-start (c.start_key-key.ensures a.text.now) c.if-key-eq0.false in
    room_as a.write a.out.now a.at _ _
    (start-line _ a.text.now a.row _ key _ _ (c.end_line.ensures a.text.now) c.requires.item_in_bounds.0 c.part_of.ensures) c.requires.room_for

pub returns-then-write : goal.returns-then-write
returns-then-write c =
    let a = c.args in
    let key = key-start (c.start_key-key.ensures a.text.now) c.if-key-eq0.false in
    emitted_as _ _ _
    (start-line _ a.text.now a.row _ key _ _ (c.end_line.ensures a.text.now) c.requires.item_in_bounds.0 c.part_of.ensures) c.emit_record.ensures

pub measure_start-requires : goal.measure_start-requires
measure_start-requires c = λ text. key-start (c.start_key-key.ensures text) c.if-key-eq0.false

pub returns : goal.returns
returns c =
    let a = c.args in
    emitted-past a.write a.out.now _ a.at _ c.if-write.false (c.measure_start.ensures a.text.now c.requires.item_in_bounds.0)
