-- `print_report::print_section` meets its contract, stage after stage. Assumes nothing.
use Rattle.std.proofs.Common.{arith}
use Rattle.print_report.proofs.StageLaws.{here, head_room, functions-room, group-rows, groups_room, end-room, section_done}
use Rattle.print_report.proofs.TableLaws.{run-functions}
use Rattle.print_report.proofs.print_section.Goals as goal

pub emit_head-a-requires-clause-room_for : goal.emit_head-a-requires-clause-room_for
emit_head-a-requires-clause-room_for c =
    let η = here c.requires.printable_table c.get-header.ensures c.find_kind_ranges-runs.ensures c.requires.room_for (omega arith) (omega arith) in
    head_room η

pub print_functions-b-requires-clause-function_rows : goal.print_functions-b-requires-clause-function_rows
print_functions-b-requires-clause-function_rows c =
    let η = here c.requires.printable_table c.get-header.ensures c.find_kind_ranges-runs.ensures c.requires.room_for (omega arith) (omega arith) in
    run-functions η.spacious η.runs.functions

pub print_functions-b-requires-clause-room_for : goal.print_functions-b-requires-clause-room_for
print_functions-b-requires-clause-room_for c =
    let η = here c.requires.printable_table c.get-header.ensures c.find_kind_ranges-runs.ensures c.requires.room_for (omega arith) (omega arith) in
    functions-room η c.emit_head-a.ensures

pub print_groups-c-requires-clause-group_rows : goal.print_groups-c-requires-clause-group_rows
print_groups-c-requires-clause-group_rows c =
    let η = here c.requires.printable_table c.get-header.ensures c.find_kind_ranges-runs.ensures c.requires.room_for (omega arith) (omega arith) in
    group-rows η c.emit_head-a.ensures c.print_functions-b.ensures.emitted c.print_functions-b.ensures.unchanged_before

pub print_groups-c-requires-clause-room_for : goal.print_groups-c-requires-clause-room_for
print_groups-c-requires-clause-room_for c =
    let η = here c.requires.printable_table c.get-header.ensures c.find_kind_ranges-runs.ensures c.requires.room_for (omega arith) (omega arith) in
    groups_room η c.emit_head-a.ensures c.print_functions-b.ensures.emitted c.print_functions-b.ensures.unchanged_before

pub emit_end-end-requires : goal.emit_end-end-requires
emit_end-end-requires c =
    let η = here c.requires.printable_table c.get-header.ensures c.find_kind_ranges-runs.ensures c.requires.room_for (omega arith) (omega arith) in
    end-room η c.emit_head-a.ensures c.print_functions-b.ensures.emitted c.print_functions-b.ensures.unchanged_before c.print_groups-c.ensures

pub returns : goal.returns
returns c =
    let η = here c.requires.printable_table c.get-header.ensures c.find_kind_ranges-runs.ensures c.requires.room_for (omega arith) (omega arith) in
    section_done η c.emit_head-a.ensures c.print_functions-b.ensures.emitted c.print_functions-b.ensures.unchanged_before c.print_groups-c.ensures
    c.emit_end-end.ensures
