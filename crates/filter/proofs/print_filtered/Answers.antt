-- `filter::print_filtered` meets its contract: what is too long is refused, and the rest written. Assumes nothing.
use Rattle.std.proofs.Common.{arith}
use Rattle.tag_table.specs.Tags.{tag_of}
use lib.ListN.{take}
use Rattle.line_num_pairs.specs.Pairs.{ranges_in}
use Rattle.print_report.specs.Printing.{PrintableTable}
use Rattle.print_report.proofs.TableLaws.{printable-kept}
use Rattle.print_report.proofs.AnswerLaws.{short_answer, short-out, second-room, written_answer, written_out}
use Rattle.print_report.proofs.LoopLaws.{enough_bytes, room_again, emitted_again}
use Rattle.filter.proofs.SectionLaws.{filtered_measured}
use Rattle.filter.proofs.print_filtered.Goals as goal

pub returns-then-out-needed-clause-value : goal.returns-then-out-needed-clause-value
returns-then-out-needed-clause-value c =
    let a = c.args in
    let π : PrintableTable a.text.now a.words.now a.index a.used a.n a.spare
    = record { table = c.requires.table.0; few = c.requires.table.1; behind = c.requires.used_bound.0; words = c.requires.used_bound.1 } in
    let μ = filtered_measured (tag_of a.tags) a.bound (take a.count (ranges_in a.pairs.now)) π c.required_len-needed.ensures.unchanged_before
    c.required_len-needed.ensures.required_length (omega arith) in
    short_answer (enough_bytes μ) μ.few (omega arith) c.too_short.ensures

pub returns-then-out-needed-clause-out_after : goal.returns-then-out-needed-clause-out_after
returns-then-out-needed-clause-out_after c =
    let a = c.args in
    let π : PrintableTable a.text.now a.words.now a.index a.used a.n a.spare
    = record { table = c.requires.table.0; few = c.requires.table.1; behind = c.requires.used_bound.0; words = c.requires.used_bound.1 } in
    let μ = filtered_measured (tag_of a.tags) a.bound (take a.count (ranges_in a.pairs.now)) π c.required_len-needed.ensures.unchanged_before
    c.required_len-needed.ensures.required_length (omega arith) in
    short-out (enough_bytes μ) μ.few (omega arith)

pub filter_sections-len-requires-clause-printable_table : goal.filter_sections-len-requires-clause-printable_table
filter_sections-len-requires-clause-printable_table c =
    let a = c.args in
    let π : PrintableTable a.text.now a.words.now a.index a.used a.n a.spare
    = record { table = c.requires.table.0; few = c.requires.table.1; behind = c.requires.used_bound.0; words = c.requires.used_bound.1 } in
    printable-kept π c.required_len-needed.ensures.unchanged_before

pub filter_sections-len-requires-clause-count_value : goal.filter_sections-len-requires-clause-count_value
filter_sections-len-requires-clause-count_value c =
    let a = c.args in
    let π : PrintableTable a.text.now a.words.now a.index a.used a.n a.spare
    = record { table = c.requires.table.0; few = c.requires.table.1; behind = c.requires.used_bound.0; words = c.requires.used_bound.1 } in
    let μ = filtered_measured (tag_of a.tags) a.bound (take a.count (ranges_in a.pairs.now)) π c.required_len-needed.ensures.unchanged_before
    c.required_len-needed.ensures.required_length (omega arith) in
    (c.requires.table.2, room_again μ (second-room (enough_bytes μ) μ.few (omega arith)))

pub returns-clause-value : goal.returns-clause-value
returns-clause-value c =
    let a = c.args in
    let π : PrintableTable a.text.now a.words.now a.index a.used a.n a.spare
    = record { table = c.requires.table.0; few = c.requires.table.1; behind = c.requires.used_bound.0; words = c.requires.used_bound.1 } in
    let μ = filtered_measured (tag_of a.tags) a.bound (take a.count (ranges_in a.pairs.now)) π c.required_len-needed.ensures.unchanged_before
    c.required_len-needed.ensures.required_length (omega arith) in
    written_answer (enough_bytes μ) μ.few (omega arith) (emitted_again μ c.filter_sections-len.ensures.emitted)

pub returns-clause-out_after : goal.returns-clause-out_after
returns-clause-out_after c =
    let a = c.args in
    let π : PrintableTable a.text.now a.words.now a.index a.used a.n a.spare
    = record { table = c.requires.table.0; few = c.requires.table.1; behind = c.requires.used_bound.0; words = c.requires.used_bound.1 } in
    let μ = filtered_measured (tag_of a.tags) a.bound (take a.count (ranges_in a.pairs.now)) π c.required_len-needed.ensures.unchanged_before
    c.required_len-needed.ensures.required_length (omega arith) in
    written_out (enough_bytes μ) μ.few (omega arith) (emitted_again μ c.filter_sections-len.ensures.emitted)
