-- `print_report::print_groups` meets its contract: branches, and then lines. Assumes nothing.
use Rattle.std.proofs.Common.{arith, ◌*◌, ◌^◌, ◌<◌, length}
use Rattle.tag_table.specs.Tags.{tag_of}
use Rattle.print_report.specs.Printing.{branch_lines, line_lines}
use Rattle.print_rows.proofs.EmitLaws.{emitted_both}
use Rattle.print_report.proofs.print_groups.Goals as goal

pub returns : goal.returns
returns c =
    let a = c.args in
    let few : length a.out.now * 1 < 2 ^ 63 = omega arith in
    emitted_both a.write a.out.now a.at (branch_lines (tag_of a.tags) a.text.now a.words.now a.index a.runs)
    (line_lines (tag_of a.tags) a.text.now a.words.now a.index a.runs) c.requires.room_for few c.emit_group-end.ensures c.emit_group.ensures
