-- `print_report::print_sections` meets its contract: the sections before a place are printed. Assumes nothing.
use Rattle.std.proofs.Common.{arith}
use Rattle.print_report.proofs.LoopLaws.{report_prints, loop_start, loop_header, loop_room, loop_next, loop_done}
use Rattle.print_report.proofs.TableLaws.{printable-kept}
use Rattle.print_report.proofs.print_sections.Goals as goal

pub loop-lo-init : goal.loop-lo-init
loop-lo-init c = loop_start c.requires.printable_table c.requires.room_for (omega arith)

pub print_section-printed-requires-clause-printable_table : goal.print_section-printed-requires-clause-printable_table
print_section-printed-requires-clause-printable_table c =
    let π = c.requires.printable_table in
    let Λ = c.loop-lo.invariant in
    (printable-kept π Λ.spared, omega arith, loop_header π (report_prints _ π) Λ (omega arith))

pub print_section-printed-requires-clause-room_for : goal.print_section-printed-requires-clause-room_for
print_section-printed-requires-clause-room_for c = loop_room c.requires.printable_table (report_prints _ c.requires.printable_table) c.loop-lo.invariant

pub loop-lo-preserved : goal.loop-lo-preserved
loop-lo-preserved c =
    loop_next c.requires.printable_table (report_prints _ c.requires.printable_table) c.loop-lo.invariant c.print_section-printed.ensures
    c.print_section-printed.auto.out

pub returns-clause-emitted : goal.returns-clause-emitted
returns-clause-emitted c = loop_done c.requires.printable_table (report_prints _ c.requires.printable_table) c.loop-lo.invariant (omega arith)
