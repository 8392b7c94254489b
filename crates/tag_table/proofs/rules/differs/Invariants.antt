-- The invariant: tag k is none of those after it exactly if it is none of those from number j on.
use Rattle.std.proofs.Common.{◌≡◌, ◌+◌}
use Rattle.tag_table.specs.Rules.{other_than}
use Rattle.tag_table.proofs.rules.differs.Given as goal

abbrev pub invariant-loop-j : goal.invariant-loop-j
invariant-loop-j l = other_than l.table l.k l.j ≡ other_than l.table l.k (l.k + 1)
