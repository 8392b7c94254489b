-- `bundle::all_fit` meets its contract. Assumes nothing.
use Rattle.std.proofs.Common.{rules}
use Rattle.bundle.proofs.BundleLaws.{fit_end, fit_next, fit_over}
use Rattle.bundle.proofs.all_fit.Goals as goal

pub returns-then-total-text_start : goal.returns-then-total-text_start
returns-then-total-text_start c = search (fit_over, rules)

pub loop-i-preserved : goal.loop-i-preserved
loop-i-preserved c = search (fit_next, rules)

pub returns : goal.returns
returns c = search (fit_end, rules)
