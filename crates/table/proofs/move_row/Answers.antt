-- `table::move_row` meets its contract: a move of one row number is a move of its row. Assumes nothing.
use Rattle.std.proofs.Common.{arith, length-set}
use Rattle.table.proofs.StoreLaws.{moved_store, moved-rows, one_kept, one-moved}
use Rattle.table.proofs.move_row.Goals as goal

pub returns-clause-store : goal.returns-clause-store
returns-clause-store c =
    let (s, h, l) = c.requires in
    let m = c.copy_words in
    moved_store s h (omega arith) (one-moved _ _ _ h (omega arith) m.auto.words m.ensures c.args.used) (simp length-set m.auto.words)

pub returns-clause-rows : goal.returns-clause-rows
returns-clause-rows c =
    let (s, h, l) = c.requires in
    let m = c.copy_words in
    moved-rows s h (omega arith) (one-moved _ _ _ h (omega arith) m.auto.words m.ensures c.args.used) (one_kept _ _ _ h (omega arith) m.auto.words m.ensures)
