-- `print_rows::emit_row` meets its contract. Assumes nothing.
use Rattle.std.proofs.Common.{rules}
use Rattle.print_rows.proofs.EmitLaws.{room_as, emitted_as}
use Rattle.print_rows.proofs.PassLaws.{pass_starts, pass_data}
use Rattle.print_rows.proofs.emit_row.Goals as goal

pub emit_start-requires : goal.emit_start-requires
emit_start-requires c = record {
  item_in_bounds = c.requires.item_in_bounds;
  room_for = room_as c.args.write c.args.out.now c.args.at _ _ (pass_starts _ c.args.starts _ c.if-starts.true) c.requires.room_for;
}

pub returns-then-starts : goal.returns-then-starts
returns-then-starts c = search (emitted_as, pass_starts, rules)

pub emit_data-requires : goal.emit_data-requires
emit_data-requires c = record {
  item_in_bounds = c.requires.item_in_bounds;
  room_for = room_as c.args.write c.args.out.now c.args.at _ _ (pass_data _ c.args.starts _ c.if-starts.false) c.requires.room_for;
}

pub returns : goal.returns
returns c = search (emitted_as, pass_data, rules)
