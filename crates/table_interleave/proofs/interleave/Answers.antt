-- `table_interleave::interleave` meets its contract. Assumes nothing.
use Rattle.std.proofs.Common.{◌-◌, arith, refl}
use Rattle.table_interleave.proofs.LoopLaws.{Fits, interleaving_next, interleaving_store, interleaving_rows}
use Rattle.table_interleave.proofs.interleave.Goals as goal

-- where the words are as the function begins
fits : (c : goal.After-loop-j) → Fits c.args.words.now c.args.index c.args.used c.args.at c.args.n c.args.p c.args.spare
fits c = record { rows = c.requires.store.1; behind = c.requires.used_bound.0; room = c.requires.used_bound.1; rising = c.requires.used_bound.2 }

pub loop-j-preserved : goal.loop-j-preserved
loop-j-preserved c =
    let (φ, η) = c.loop-j.invariant in
    let m = c.copy_words-in-loop-j in
    (φ, interleaving_next φ (c.loop-j.j - 1) _ (omega arith) η refl m.auto.words m.ensures)

pub returns-clause-store : goal.returns-clause-store
returns-clause-store c =
    interleaving_store c.requires.store.0 (fits c) c.copy_words.auto.words c.copy_words.ensures c.loop-j-test.false c.loop-j.invariant.1

pub returns-clause-rows : goal.returns-clause-rows
returns-clause-rows c =
    interleaving_rows c.requires.store.0 (fits c) c.copy_words.auto.words c.copy_words.ensures c.loop-j-test.false c.loop-j.invariant.1
