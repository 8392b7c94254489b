-- The loop of `table_tombstone::compact`: the first i row numbers are partitioned. Assumes nothing.
use Rattle.std.proofs.Common.{◌≤◌}
use Rattle.table_tombstone.proofs.CompactLaws.{Fits, Compacting}
use Rattle.table_tombstone.proofs.compact.Given as goal

abbrev pub invariant-loop-i : goal.invariant-loop-i
invariant-loop-i l =
    (l.living ≤ l.i) × Fits l.initial.words l.index l.used l.n l.spare × Compacting l.initial.words l.words l.index l.used l.n l.spare l.i l.living
