use Rattle.std.proofs.Common.{rules}
use Rattle.compare.proofs.CompareLaws.{unlike_lengths}
use Rattle.compare.proofs.OrderLaws.{tells_equal}
use Rattle.compare.proofs.path.equal.Goals as goal

pub returns-else-a-b : goal.returns-else-a-b
returns-else-a-b c = search (unlike_lengths, rules)

pub returns-then-a-b : goal.returns-then-a-b
returns-then-a-b c = tells_equal _ c.compare_bytes.ensures c.is_eq.ensures
