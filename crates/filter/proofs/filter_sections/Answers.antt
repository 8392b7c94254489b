-- `filter::filter_sections` meets its contract. Assumes nothing.
use Rattle.std.proofs.Common.{arith}
use lib.ListN.{take}
use Rattle.line_num_pairs.specs.Pairs.{ranges_in}
use Rattle.filter.proofs.SectionLaws.{filtered_prints}
use Rattle.print_report.proofs.TableLaws.{printable-kept}
use Rattle.print_report.proofs.LoopLaws.{loop_start, loop_header, loop_room, loop_next, loop_done}
use Rattle.filter.proofs.filter_sections.Goals as goal

pub loop-lo-init : goal.loop-lo-init
loop-lo-init c = loop_start c.requires.printable_table c.requires.count_value.1 (omega arith)

pub filter_section-done-requires-clause-printable_table : goal.filter_section-done-requires-clause-printable_table
filter_section-done-requires-clause-printable_table c =
    let Λ = c.loop-lo.invariant in (
      printable-kept c.requires.printable_table Λ.spared,
      omega arith,
      loop_header c.requires.printable_table (filtered_prints _ c.args.bound (take c.args.count (ranges_in c.args.pairs.now)) c.requires.printable_table) Λ (omega arith),
    )

pub filter_section-done-requires-clause-count_value : goal.filter_section-done-requires-clause-count_value
filter_section-done-requires-clause-count_value c =
    (c.requires.count_value.0, loop_room c.requires.printable_table (filtered_prints _ c.args.bound (take c.args.count (ranges_in c.args.pairs.now)) c.requires.printable_table) c.loop-lo.invariant)

pub loop-lo-preserved : goal.loop-lo-preserved
loop-lo-preserved c =
    loop_next c.requires.printable_table (filtered_prints _ c.args.bound (take c.args.count (ranges_in c.args.pairs.now)) c.requires.printable_table) c.loop-lo.invariant
    c.filter_section-done.ensures c.filter_section-done.auto.out

pub returns-clause-emitted : goal.returns-clause-emitted
returns-clause-emitted c = loop_done c.requires.printable_table (filtered_prints _ c.args.bound (take c.args.count (ranges_in c.args.pairs.now)) c.requires.printable_table) c.loop-lo.invariant (omega arith)
