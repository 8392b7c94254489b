-- `lcov::read` meets its contract. Assumes nothing.
use Rattle.std.proofs.Common.{◌≡◌, rules, Err, length}
use Rattle.tag_table.specs.Tags.{tag_of}
use Rattle.lcov.proofs.CallLaws.{called, reading_ready, reading_refused, reading_printed, read_means}
use Rattle.model.specs.Printing.{print_report}
use Rattle.lcov.proofs.read.Goals as goal

pub returns-in_err-kept : goal.returns-in_err-kept
returns-in_err-kept c =
    let a = c.args in
    let e : c.from_residual.result ≡ Err c.in_err-kept.field-0.0 = search rules in
    rw e (called (reading_refused _ _ _ _ c.entry_limit-limit.ensures _ _ _ c.read_lines.ensures (print_report (tag_of a.tags)) a.out.now _
    (read_means _ a.text.now (length a.scratch.now) a.out.now) _ c.in_err-kept.was))

pub print_report-requires-clause-table : goal.print_report-requires-clause-table
print_report-requires-clause-table c =
    (reading_ready _ _ _ _ c.entry_limit-limit.ensures _ _ _ c.read_lines.ensures _ c.in_ok-kept.was (search rules) c.index_at-index.ensures _ c.spare_at-spare.ensures).0

pub print_report-requires-clause-used_bound : goal.print_report-requires-clause-used_bound
print_report-requires-clause-used_bound c =
    (reading_ready _ _ _ _ c.entry_limit-limit.ensures _ _ _ c.read_lines.ensures _ c.in_ok-kept.was (search rules) c.index_at-index.ensures _ c.spare_at-spare.ensures).1

pub returns : goal.returns
returns c =
    let a = c.args in
    called (reading_printed _ _ _ _ c.entry_limit-limit.ensures _ _ _ c.read_lines.ensures (print_report (tag_of a.tags)) a.out.now _
    (read_means _ a.text.now (length a.scratch.now) a.out.now) _ c.in_ok-kept.was _ _ (c.print_report.ensures.value, c.print_report.ensures.out_after))
