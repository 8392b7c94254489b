-- `lcov::print_joined` meets its contract. Assumes nothing.
use Rattle.std.proofs.Common.{◌≡◌, rules, Err}
use Rattle.tag_table.specs.Tags.{tag_of}
use Rattle.lcov.proofs.CallLaws.{called, joined-refused, joined-printed}
use Rattle.model.specs.Printing.{print_report}
use Rattle.lcov.proofs.print_joined.Goals as goal

pub returns-in_err-n : goal.returns-in_err-n
returns-in_err-n c =
    let a = c.args in
    let e : c.from_residual.result ≡ Err c.in_err-n.field-0.0 = search rules in
    rw e (called (joined-refused (print_report (tag_of a.tags)) a.bundle.now _ a.got c.requires a.out.now _ c.in_err-n.was))

pub returns : goal.returns
returns c =
    let a = c.args in
    called (joined-printed (print_report (tag_of a.tags)) a.bundle.now _ a.got c.requires a.out.now _ c.in_ok-n.was _ c.entry_limit-limit.ensures _
    c.index_at-index.ensures _ _ (c.print_report.ensures.value, c.print_report.ensures.out_after))
