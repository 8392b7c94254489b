-- `print_report::print_report` meets its contract: what is too long is refused, and the rest written. Assumes nothing.
use Rattle.std.proofs.Common.{arith}
use Rattle.tag_table.specs.Tags.{tag_of}
use Rattle.print_report.specs.Printing.{PrintableTable}
use Rattle.print_report.proofs.TableLaws.{printable-kept}
use Rattle.print_report.proofs.AnswerLaws.{short_answer, short-out, second-room, written_answer, written_out}
use Rattle.print_report.proofs.LoopLaws.{report_measured, enough_bytes, room_again, emitted_again}
use Rattle.print_report.proofs.print_report.Goals as goal

pub returns-then-out-needed-clause-value : goal.returns-then-out-needed-clause-value
returns-then-out-needed-clause-value c =
    let a = c.args in
    let π : PrintableTable a.text.now a.words.now a.index a.used a.n a.spare
    = record { table = c.requires.table.0; few = c.requires.table.1; behind = c.requires.used_bound.0; words = c.requires.used_bound.1 } in
    let μ = report_measured (tag_of a.tags) π c.required_len-needed.ensures.unchanged_before c.required_len-needed.ensures.required_length (omega arith) in
    short_answer (enough_bytes μ) μ.few (omega arith) c.too_short.ensures

pub returns-then-out-needed-clause-out_after : goal.returns-then-out-needed-clause-out_after
returns-then-out-needed-clause-out_after c =
    let a = c.args in
    let π : PrintableTable a.text.now a.words.now a.index a.used a.n a.spare
    = record { table = c.requires.table.0; few = c.requires.table.1; behind = c.requires.used_bound.0; words = c.requires.used_bound.1 } in
    let μ = report_measured (tag_of a.tags) π c.required_len-needed.ensures.unchanged_before c.required_len-needed.ensures.required_length (omega arith) in
    short-out (enough_bytes μ) μ.few (omega arith)

pub print_sections-len-requires-clause-printable_table : goal.print_sections-len-requires-clause-printable_table
print_sections-len-requires-clause-printable_table c =
    let a = c.args in
    let π : PrintableTable a.text.now a.words.now a.index a.used a.n a.spare
    = record { table = c.requires.table.0; few = c.requires.table.1; behind = c.requires.used_bound.0; words = c.requires.used_bound.1 } in
    printable-kept π c.required_len-needed.ensures.unchanged_before

pub print_sections-len-requires-clause-room_for : goal.print_sections-len-requires-clause-room_for
print_sections-len-requires-clause-room_for c =
    let a = c.args in
    let π : PrintableTable a.text.now a.words.now a.index a.used a.n a.spare
    = record { table = c.requires.table.0; few = c.requires.table.1; behind = c.requires.used_bound.0; words = c.requires.used_bound.1 } in
    let μ = report_measured (tag_of a.tags) π c.required_len-needed.ensures.unchanged_before c.required_len-needed.ensures.required_length (omega arith) in
    room_again μ (second-room (enough_bytes μ) μ.few (omega arith))

pub returns-clause-value : goal.returns-clause-value
returns-clause-value c =
    let a = c.args in
    let π : PrintableTable a.text.now a.words.now a.index a.used a.n a.spare
    = record { table = c.requires.table.0; few = c.requires.table.1; behind = c.requires.used_bound.0; words = c.requires.used_bound.1 } in
    let μ = report_measured (tag_of a.tags) π c.required_len-needed.ensures.unchanged_before c.required_len-needed.ensures.required_length (omega arith) in
    written_answer (enough_bytes μ) μ.few (omega arith) (emitted_again μ c.print_sections-len.ensures.emitted)

pub returns-clause-out_after : goal.returns-clause-out_after
returns-clause-out_after c =
    let a = c.args in
    let π : PrintableTable a.text.now a.words.now a.index a.used a.n a.spare
    = record { table = c.requires.table.0; few = c.requires.table.1; behind = c.requires.used_bound.0; words = c.requires.used_bound.1 } in
    let μ = report_measured (tag_of a.tags) π c.required_len-needed.ensures.unchanged_before c.required_len-needed.ensures.required_length (omega arith) in
    written_out (enough_bytes μ) μ.few (omega arith) (emitted_again μ c.print_sections-len.ensures.emitted)
