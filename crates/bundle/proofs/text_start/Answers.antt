-- `bundle::text_start` meets its contract. Assumes nothing.
use Rattle.std.proofs.Common.{rules}
use Rattle.bundle.proofs.BundleLaws.{start_is}
use Rattle.bundle.proofs.text_start.Goals as goal

pub returns : goal.returns
returns c = search (start_is, rules)
