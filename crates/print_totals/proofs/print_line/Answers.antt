-- `print_totals::print_line` meets its contract. Assumes nothing.
use Rattle.std.proofs.Common.{arith}
use Rattle.print_totals.proofs.LineLaws.{Here, counted-small, columns-room, names-room, line_done}
use Rattle.print_totals.proofs.print_line.Goals as goal

pub emit_columns-named-requires : goal.emit_columns-named-requires
emit_columns-named-requires c =
    let η : Here c.args.write c.args.text.now c.args.words.now c.args.out.now c.args.index c.args.n c.args.lo c.args.at c.get-header.result c.find_kind_ranges-runs.result c.count_section-totals.result = record { table = c.requires.table.0; few = c.requires.table.1; more = c.requires.table.2; kind = c.requires.table.3; is = c.get-header.ensures; runs = c.find_kind_ranges-runs.ensures; counted = c.count_section-totals.ensures c.args.text.now; room = c.requires.room_for; small = omega arith; place = omega arith } in
    (counted-small η, columns-room η)

pub emit_names-end-requires-clause-room_for : goal.emit_names-end-requires-clause-room_for
emit_names-end-requires-clause-room_for c =
    let η : Here c.args.write c.args.text.now c.args.words.now c.args.out.now c.args.index c.args.n c.args.lo c.args.at c.get-header.result c.find_kind_ranges-runs.result c.count_section-totals.result = record { table = c.requires.table.0; few = c.requires.table.1; more = c.requires.table.2; kind = c.requires.table.3; is = c.get-header.ensures; runs = c.find_kind_ranges-runs.ensures; counted = c.count_section-totals.ensures c.args.text.now; room = c.requires.room_for; small = omega arith; place = omega arith } in
    names-room η c.emit_columns-named.ensures

pub returns : goal.returns
returns c =
    let η : Here c.args.write c.args.text.now c.args.words.now c.args.out.now c.args.index c.args.n c.args.lo c.args.at c.get-header.result c.find_kind_ranges-runs.result c.count_section-totals.result = record { table = c.requires.table.0; few = c.requires.table.1; more = c.requires.table.2; kind = c.requires.table.3; is = c.get-header.ensures; runs = c.find_kind_ranges-runs.ensures; counted = c.count_section-totals.ensures c.args.text.now; room = c.requires.room_for; small = omega arith; place = omega arith } in
    line_done η c.emit_columns-named.ensures c.emit_names-end.ensures
