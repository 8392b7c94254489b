-- `window_lines::write_lines` meets its contract. Assumes nothing.
use Rattle.std.proofs.Common.{◌≡◌, rules, Err}
use Rattle.window_lines.proofs.LineLaws.{lines-refused}
use Rattle.window_lines.proofs.write_lines.Goals as goal

pub returns-in_err-len : goal.returns-in_err-len
returns-in_err-len c =
    let e : c.from_residual.result ≡ Err c.in_err-len.field-0.0 = search rules in
    rw e (lines-refused _ _ _ c.put_lines.ensures c.args.out.now _ c.in_err-len.was)
