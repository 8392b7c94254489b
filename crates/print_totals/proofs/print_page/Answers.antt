-- `print_totals::print_page` meets its contract. Assumes nothing.
use Rattle.std.proofs.Common.{arith, ◌*◌, ◌^◌, ◌<◌, length}
use Rattle.print_report.proofs.AnswerLaws.{required_measured, short_answer, short-out, written_answer, written_out}
use Rattle.print_totals.proofs.print_page.Goals as goal

pub returns-then-out-needed-clause-value : goal.returns-then-out-needed-clause-value
returns-then-out-needed-clause-value c =
    let few : length c.args.out.now * 1 < 2 ^ 63 = omega arith in
    let measured = required_measured c.print_lines-needed.ensures few in
    short_answer measured few (omega arith) c.too_short.ensures

pub returns-then-out-needed-clause-out_after : goal.returns-then-out-needed-clause-out_after
returns-then-out-needed-clause-out_after c =
    let few : length c.args.out.now * 1 < 2 ^ 63 = omega arith in
    let measured = required_measured c.print_lines-needed.ensures few in
    short-out measured few (omega arith)

pub returns-clause-value : goal.returns-clause-value
returns-clause-value c =
    let few : length c.args.out.now * 1 < 2 ^ 63 = omega arith in
    let measured = required_measured c.print_lines-needed.ensures few in
    written_answer measured few (omega arith) c.print_lines-len.ensures

pub returns-clause-out_after : goal.returns-clause-out_after
returns-clause-out_after c =
    let few : length c.args.out.now * 1 < 2 ^ 63 = omega arith in
    let measured = required_measured c.print_lines-needed.ensures few in
    written_out measured few (omega arith) c.print_lines-len.ensures
