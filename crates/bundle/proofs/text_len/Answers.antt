-- `bundle::text_len` meets its contract. Assumes nothing.
use Rattle.std.proofs.Common.{rules}
use Rattle.bundle.proofs.BundleLaws.{length-is}
use Rattle.bundle.proofs.text_len.Goals as goal

pub returns : goal.returns
returns c = search (length-is, rules)
