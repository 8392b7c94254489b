-- The loop of `table_interleave::interleave`: the new rows from the j-th on are at their positions. Assumes nothing.
use Rattle.table_interleave.proofs.LoopLaws.{Fits, Interleaving}
use Rattle.table_interleave.proofs.interleave.Given as goal

abbrev pub invariant-loop-j : goal.invariant-loop-j
invariant-loop-j l =
    Fits l.initial.words l.index l.used l.at l.n l.p l.spare × Interleaving l.initial.words l.words l.index l.used l.at l.n l.p l.spare l.j l.hi
