-- `print_rows::emit_item` meets its contract. Assumes nothing.
use Rattle.std.proofs.Common.{arith}
use Rattle.print_rows.proofs.EmitLaws.{room_as, emitted_as, emitted_empty}
use Rattle.print_rows.proofs.LentLaws.{function-line, branch-line, checked_line, no_data, line-fits, block_fits, branch-number-fits, line-number-fits}
use Rattle.print_rows.proofs.emit_item.Goals as goal

pub emit_record-requires : goal.emit_record-requires
emit_record-requires c =
    let a = c.args in
    room_as a.write a.out.now a.at _ _ (function-line _ a.text.now a.row _ (omega arith) c.requires.item_in_bounds.0 c.part_of.ensures) c.requires.room_for

pub returns-then-kind-eq-FUNCTION : goal.returns-then-kind-eq-FUNCTION
returns-then-kind-eq-FUNCTION c =
    emitted_as _ _ _ (function-line _ _ c.args.row _ (omega arith) c.requires.item_in_bounds.0 c.part_of.ensures) c.emit_record.ensures

pub overflow_cast-record : goal.overflow_cast-record
overflow_cast-record c = line-fits _ _ c.requires.item_in_bounds.1 (omega arith)

pub overflow_cast-record-then-kind-eq-BRANCH : goal.overflow_cast-record-then-kind-eq-BRANCH
overflow_cast-record-then-kind-eq-BRANCH c = block_fits _ _ c.requires.item_in_bounds.1 (omega arith)

pub overflow_cast-record-then-kind-eq-BRANCH-2 : goal.overflow_cast-record-then-kind-eq-BRANCH-2
overflow_cast-record-then-kind-eq-BRANCH-2 c = branch-number-fits _ _ c.requires.item_in_bounds.1 (omega arith)

pub emit_record-requires-then-kind-eq-BRANCH : goal.emit_record-requires-then-kind-eq-BRANCH
emit_record-requires-then-kind-eq-BRANCH c =
    let a = c.args in room_as a.write a.out.now a.at _ _ (branch-line _ a.text.now a.row _ (omega arith) c.taken_of.ensures) c.requires.room_for

pub returns-then-kind-eq-BRANCH : goal.returns-then-kind-eq-BRANCH
returns-then-kind-eq-BRANCH c =
    emitted_as _ _ _ (branch-line _ _ c.args.row _ (omega arith) c.taken_of.ensures) c.emit_record-then-kind-eq-BRANCH.ensures

pub overflow_cast-record-then-kind-eq-LINE : goal.overflow_cast-record-then-kind-eq-LINE
overflow_cast-record-then-kind-eq-LINE c = line-number-fits _ _ c.requires.item_in_bounds.1 (omega arith)

pub emit_record-requires-then-kind-eq-LINE : goal.emit_record-requires-then-kind-eq-LINE
emit_record-requires-then-kind-eq-LINE c =
    let a = c.args in
    room_as a.write a.out.now a.at _ _ (checked_line _ a.text.now a.row _ (omega arith) c.requires.item_in_bounds.0 c.checksum_of.ensures) c.requires.room_for

pub returns-then-kind-eq-LINE : goal.returns-then-kind-eq-LINE
returns-then-kind-eq-LINE c =
    emitted_as _ _ _ (checked_line _ _ c.args.row _ (omega arith) c.requires.item_in_bounds.0 c.checksum_of.ensures) c.emit_record-then-kind-eq-LINE.ensures

pub returns : goal.returns
returns c = emitted_empty _ _ _ _ (omega arith) (no_data _ _ c.args.row c.requires.item_in_bounds.0 (omega arith) (omega arith) (omega arith))
