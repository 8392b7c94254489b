use Rattle.std.proofs.Common.{rules}
use Rattle.compare.proofs.PathLaws.{paths-equal, skip_shared}
use Rattle.compare.proofs.NameLaws.{names-differ}
use Rattle.compare.proofs.OrderLaws.{numbers_compared}
use Rattle.compare.proofs.path.compare_paths.Goals as goal

pub returns-then-b-n : goal.returns-then-b-n
returns-then-b-n c = search (paths-equal, rules)

pub returns-then-in_name-2 : goal.returns-then-in_name-2
returns-then-in_name-2 c =
    names-differ _ c.common_prefix-n.ensures c.if-n-a.true c.if-n-b.true (c.in_name.ensures c.if-in_name.true) (c.in_name-then-in_name.ensures c.if-in_name-2.true)
    (numbers_compared _ _ c.cmp.ensures)

pub returns : goal.returns
returns c = search (skip_shared, rules)
