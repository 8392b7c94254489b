-- `table::move_block` meets its contract: a move of row numbers is a move of rows. Assumes nothing.
use Rattle.std.proofs.Common.{◌∙◌}
use Rattle.table.proofs.StoreLaws.{moved_store, moved-rows, block_kept, block_moved}
use Rattle.table.proofs.move_block.Goals as goal

pub returns-clause-store : goal.returns-clause-store
returns-clause-store c =
    let (s, h, l) = c.requires.store in
    let β = block_moved _ _ _ _ h l c.requires.used_bound.0 c.copy_words.ensures c.copy_words-2.ensures c.copy_words-3.ensures in
    moved_store s h l β (c.copy_words-3.auto.words ∙ c.copy_words-2.auto.words ∙ c.copy_words.auto.words)

pub returns-clause-rows : goal.returns-clause-rows
returns-clause-rows c =
    let (s, h, l) = c.requires.store in
    let β = block_moved _ _ _ _ h l c.requires.used_bound.0 c.copy_words.ensures c.copy_words-2.ensures c.copy_words-3.ensures in
    moved-rows s h l β (block_kept _ _ _ _ h l c.requires.used_bound.0 c.copy_words.ensures c.copy_words-2.ensures c.copy_words-3.ensures)
