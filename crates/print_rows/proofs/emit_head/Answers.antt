-- `print_rows::emit_head` meets its contract. Assumes nothing.
use Rattle.std.proofs.Common.{arith}
use Rattle.table.specs.declared.Row.{Row}
use Rattle.model.specs.Bytes.{Bytes}
use Rattle.model.specs.Record.{Record, test_name, source_file}
use Rattle.table_item.specs.Items.{part}
use Rattle.print_rows.proofs.EmitLaws.{room_as, emitted_as}
use Rattle.print_rows.proofs.LentLaws.{test-line, path-line}
use Rattle.print_rows.proofs.PassLaws.{two_first, two_then, two_emitted}
use Rattle.print_rows.proofs.emit_head.Goals as goal

abbrev test : Bytes → Row → Record
test text row = test_name (part text row.test row.test_len)

abbrev path : Bytes → Row → Record
path text row = source_file (part text row.path row.path_len)

pub emit_record-end-requires : goal.emit_record-end-requires
emit_record-end-requires c =
    let a = c.args in
    room_as a.write a.out.now a.at _ _ (test-line _ a.text.now _ _ _ c.part_of-test.ensures c.requires.test_len_in_bounds.0)
    (two_first _ a.write a.out.now a.at (test a.text.now a.row) (path a.text.now a.row) c.requires.room_for)

pub emit_record-requires : goal.emit_record-requires
emit_record-requires c =
    let a = c.args in
    room_as a.write c.emit_record-end.new.out c.emit_record-end.result _ _ (path-line _ a.text.now _ _ _ c.part_of-path.ensures c.requires.test_len_in_bounds.1)
    (two_then _ a.write a.out.now a.at (test a.text.now a.row) (path a.text.now a.row) c.requires.room_for (omega arith)
    (emitted_as _ _ _ (test-line _ _ _ _ _ c.part_of-test.ensures c.requires.test_len_in_bounds.0) c.emit_record-end.ensures))

pub returns : goal.returns
returns c =
    let a = c.args in
    two_emitted _ a.write a.out.now a.at (test a.text.now a.row) (path a.text.now a.row) c.requires.room_for (omega arith)
    (emitted_as _ _ _ (test-line _ _ _ _ _ c.part_of-test.ensures c.requires.test_len_in_bounds.0) c.emit_record-end.ensures)
    (emitted_as _ _ _ (path-line _ _ _ _ _ c.part_of-path.ensures c.requires.test_len_in_bounds.1) c.emit_record.ensures)
