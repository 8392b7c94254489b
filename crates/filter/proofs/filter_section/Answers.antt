-- `filter::filter_section` meets its contract. Assumes nothing.
use lib.ListN.{take}
use Rattle.line_num_pairs.specs.Pairs.{ranges_in}
use Rattle.filter.proofs.SectionLaws.{section_ready, section-room, section_done}
use Rattle.filter.proofs.filter_section.Goals as goal

pub print_kept-end-requires-clause-section_printable : goal.print_kept-end-requires-clause-section_printable
print_kept-end-requires-clause-section_printable c =
    let π = c.requires.printable_table in
    section_ready π.0 π.1 π.2 c.get-header.ensures c.find_kind_ranges-runs.ensures c.args.bound (take c.args.count (ranges_in c.args.pairs.now))
    c.keep_rows-kept.ensures

pub print_kept-end-requires-clause-room_for : goal.print_kept-end-requires-clause-room_for
print_kept-end-requires-clause-room_for c =
    let a = c.args in
    let π = c.requires.printable_table in
    section-room _ π.0 π.1 π.2 c.get-header.ensures c.find_kind_ranges-runs.ensures a.bound (take a.count (ranges_in a.pairs.now)) c.keep_rows-kept.ensures
    a.write a.out.now a.at c.requires.count_value.1

pub returns : goal.returns
returns c =
    let a = c.args in
    let π = c.requires.printable_table in
    section_done _ π.0 π.1 π.2 c.get-header.ensures c.find_kind_ranges-runs.ensures a.bound (take a.count (ranges_in a.pairs.now)) c.keep_rows-kept.ensures
    c.print_kept-end.ensures
