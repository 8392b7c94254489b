use Rattle.std.proofs.Common.{rules}
use Rattle.compare.proofs.CompareLaws.{bytes_prefix, bytes_longer, bytes-differ}
use Rattle.compare.proofs.OrderLaws.{numbers_compared}
use Rattle.compare.proofs.compare_bytes.Goals as goal

pub returns-then-n-a : goal.returns-then-n-a
returns-then-n-a c = bytes_prefix c.common_prefix-n.ensures _ c.if-n-a.true (numbers_compared _ _ c.cmp.ensures)

pub returns-then-n-b : goal.returns-then-n-b
returns-then-n-b c = search (bytes_longer, rules)

pub returns : goal.returns
returns c = bytes-differ c.common_prefix-n.ensures _ c.if-n-a.false c.if-n-b.false (numbers_compared _ _ c.cmp-2.ensures)
