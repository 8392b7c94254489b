-- `print_rows::emit_rows` meets its contract. Assumes nothing.
use Rattle.std.proofs.Common.{sym, append-nil, arith, []}
use Rattle.model.specs.TagTable.{tags_of}
use Rattle.print_rows.specs.Emit.{numbered_item, pass_records}
use Rattle.print_rows.proofs.EmitLaws.{emitted_empty}
use Rattle.print_rows.proofs.PassLaws.{printed, Rows, printed-start, row_ready, row-emitted}
use Rattle.print_rows.proofs.emit_rows.Goals as goal

pub loop-i-init : goal.loop-i-init
loop-i-init c = let a = c.args in emitted_empty a.write a.out.now _ a.at (omega arith) (printed-start _ (pass_records a.starts) _)

pub emit_row-end-requires-clause-room_for : goal.emit_row-end-requires-clause-room_for
emit_row-end-requires-clause-room_for c =
    let a = c.args in
    let ρ : Rows (tags_of a.tags.table.now) (pass_records a.starts) a.text.now a.words.now a.numbers a.n a.write a.out.now a.at
    (printed (tags_of a.tags.table.now) (pass_records a.starts) (numbered_item a.text.now a.words.now a.numbers) a.n) [] =
    record { rows = c.requires.printable; is = sym (append-nil _); room = c.requires.room_for; few = omega arith } in
    (row_ready ρ _ _ c.loop-i.i c.loop-i.invariant c.loop-i-test.true c.read_row-row.result c.read_row-row.ensures).1

pub loop-i-preserved : goal.loop-i-preserved
loop-i-preserved c =
    let a = c.args in
    let ρ : Rows (tags_of a.tags.table.now) (pass_records a.starts) a.text.now a.words.now a.numbers a.n a.write a.out.now a.at
    (printed (tags_of a.tags.table.now) (pass_records a.starts) (numbered_item a.text.now a.words.now a.numbers) a.n) [] =
    record { rows = c.requires.printable; is = sym (append-nil _); room = c.requires.room_for; few = omega arith } in
    row-emitted ρ _ _ c.loop-i.i c.loop-i.invariant c.loop-i-test.true c.read_row-row.result c.read_row-row.ensures c.emit_row-end.ensures
