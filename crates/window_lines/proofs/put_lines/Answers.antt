-- `window_lines::put_lines` meets its contract. Assumes nothing.
use Rattle.std.proofs.Common.{◌≡◌, rules, Ok, Err}
use Rattle.bundle.proofs.BundleLaws.{well_sized}
use Rattle.window_lines.proofs.LineLaws.{putting_start, line_at, line-room, line-fits, putting_next, putting_refused, putting_done}
use Rattle.window_lines.proofs.put_lines.Goals as goal

pub text_count-n-requires : goal.text_count-n-requires
text_count-n-requires c = search (well_sized, rules)

pub loop-i-init : goal.loop-i-init
loop-i-init c = putting_start _ _ _ _ _

pub returns-in_err-lines : goal.returns-in_err-lines
returns-in_err-lines c =
    let e : c.from_residual.result ≡ Err c.in_err-lines.field-0.0 = search rules in
    let was : c.count_window.result ≡ Err c.in_err-lines.field-0.0 = c.in_err-lines.was in
    rw e (search (putting_refused, rules))

pub slice_bounds-put_line-count : goal.slice_bounds-put_line-count
slice_bounds-put_line-count c = search (line_at, rules)

pub slice_bounds-put_line-start : goal.slice_bounds-put_line-start
slice_bounds-put_line-start c = search (line_at, rules)

pub put_line-at-requires : goal.put_line-at-requires
put_line-at-requires c = search (line-room, rules)

pub overflow_add-at : goal.overflow_add-at
overflow_add-at c = let was : c.count_window.result ≡ Ok c.in_ok-lines.lines = c.in_ok-lines.was in search (line-fits, rules)

pub loop-i-preserved : goal.loop-i-preserved
loop-i-preserved c = let was : c.count_window.result ≡ Ok c.in_ok-lines.lines = c.in_ok-lines.was in search (putting_next, rules)

pub returns : goal.returns
returns c = search (putting_done, rules)
