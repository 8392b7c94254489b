-- `lcov::page::print_page` meets its contract. Assumes nothing.
use Rattle.std.proofs.Common.{◌≡◌, rules, Err}
use Rattle.lcov.proofs.CallLaws.{called, joined-refused, joined-printed}
use Rattle.model_totals.specs.Totals.{page}
use Rattle.lcov.proofs.page.print_page.Goals as goal

pub returns-in_err-n : goal.returns-in_err-n
returns-in_err-n c =
    let a = c.args in
    let e : c.from_residual.result ≡ Err c.in_err-n.field-0.0 = search rules in
    rw e (called (joined-refused page a.bundle.now _ a.got c.requires a.out.now _ c.in_err-n.was))

pub returns : goal.returns
returns c =
    let a = c.args in
    called (joined-printed page a.bundle.now _ a.got c.requires a.out.now _ c.in_ok-n.was _ c.entry_limit-limit.ensures _ c.index_at-index.ensures _ _
    (c.print_page.ensures.value, c.print_page.ensures.out_after))
