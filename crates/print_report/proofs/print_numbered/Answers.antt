-- `print_report::print_numbered` meets its contract: FN lines, and then the others. Assumes nothing.
use Rattle.std.proofs.Common.{arith, ◌*◌, ◌^◌, ◌<◌, length}
use Rattle.tag_table.specs.Tags.{tag_of}
use Rattle.model.specs.Lists.{concat_map}
use Rattle.model.specs.Record.{functions_found, functions_hit}
use Rattle.model.specs.Printing.{start_record, group, print_records}
use Rattle.print_sort.specs.Sorting.{items_by}
use Rattle.print_rows.proofs.EmitLaws.{emitted_both}
use Rattle.print_report.proofs.print_numbered.Goals as goal

pub returns : goal.returns
returns c =
    let a = c.args in
    let few : length a.out.now * 1 < 2 ^ 63 = omega arith in
    let items = items_by a.text.now a.words.now a.numbers a.n in
    emitted_both a.write a.out.now a.at (print_records (tag_of a.tags) (concat_map start_record items))
    (print_records (tag_of a.tags) (group functions_found functions_hit items)) c.requires.room_for few c.emit_rows-end.ensures c.emit_group.ensures
