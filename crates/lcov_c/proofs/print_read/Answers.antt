-- `lcov_c::print_read` meets its contract. Assumes nothing.
use Rattle.std.proofs.Common.{◌≡◌, rules, Err}
use Rattle.lcov_c.proofs.ExportLaws.{refused-line, printed-line}
use Rattle.lcov_c.proofs.print_read.Goals as goal

pub returns-in_err-made : goal.returns-in_err-made
returns-in_err-made c =
    let e : c.from_residual.result ≡ Err c.in_err-made.field-0.0 = search rules in
    rw e (refused-line _ _ _ c.read_line.ensures _ c.in_err-made.was _)

pub returns : goal.returns
returns c = printed-line _ _ _ c.read_line.ensures _ c.in_ok-made.was _ _ _ c.print_line.ensures
