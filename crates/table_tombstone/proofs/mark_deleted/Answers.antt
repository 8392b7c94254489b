-- `table_tombstone::mark_deleted` meets its contract. Assumes nothing.
use Rattle.std.proofs.Common.{arith}
use Rattle.table_tombstone.proofs.MarkLaws.{reads_live, reads_deleted, tagged-store, tagged-row, marking_one, marked_deleted, marked_all}
use Rattle.table_tombstone.proofs.mark_deleted.Goals as goal

pub returns-then-words-at-eq-TOMBSTONE-clause-rows : goal.returns-then-words-at-eq-TOMBSTONE-clause-rows
returns-then-words-at-eq-TOMBSTONE-clause-rows c =
    let (σ, β) = c.loop-i.invariant in
    marked_deleted β (omega arith) (omega arith) (omega arith) c.requires.by_index (reads_deleted _ _ _ (omega arith))

pub loop-i-preserved : goal.loop-i-preserved
loop-i-preserved c =
    let (σ, β) = c.loop-i.invariant in
    (tagged-store _ σ (omega arith), marking_one β (omega arith) (omega arith) (reads_live _ _ _ (omega arith)) (tagged-row _ σ (omega arith)))

pub returns-clause-rows : goal.returns-clause-rows
returns-clause-rows c = marked_all c.loop-i.invariant.1 (omega arith) (omega arith) (omega arith)
