-- `table_tombstone::compact` meets its contract. Assumes nothing.
use Rattle.std.proofs.Common.{arith}
use Rattle.table_tombstone.proofs.CompactLaws.{compacting_start, compacting_next, compacted_store, compacted_rows}
use Rattle.table_tombstone.proofs.compact.Goals as goal

pub loop-i-init : goal.loop-i-init
loop-i-init c =
    let u = c.requires.used_bound in
    (omega arith, record { store = c.requires.store.0; rows = c.requires.store.1; behind = u.0; room = u.1 }, compacting_start _ _ _ _ _)

pub loop-i-preserved : goal.loop-i-preserved
loop-i-preserved c =
    let (m, φ, η) = c.loop-i.invariant in
    (omega arith, φ, compacting_next φ η c.loop-i-test.true c.count_live-living.ensures.told)

pub returns-clause-store : goal.returns-clause-store
returns-clause-store c =
    let (m, φ, η) = c.loop-i.invariant in
    compacted_store φ η c.loop-i-test.false c.copy_words.auto.words c.copy_words.ensures

pub returns-clause-rows : goal.returns-clause-rows
returns-clause-rows c =
    let (m, φ, η) = c.loop-i.invariant in
    compacted_rows φ η c.loop-i-test.false c.copy_words.auto.words c.copy_words.ensures
