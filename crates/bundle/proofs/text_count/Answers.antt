-- `bundle::text_count` meets its contract. Assumes nothing.
use Rattle.std.proofs.Common.{rules}
use Rattle.bundle.proofs.BundleLaws.{count-is}
use Rattle.bundle.proofs.text_count.Goals as goal

pub returns : goal.returns
returns c = search (count-is, rules)
