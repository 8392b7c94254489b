-- `table::swap_equal_blocks` meets its contract: what changes places among the numbers changes places among the rows. Assumes nothing.
use Rattle.std.proofs.Common.{◌∙◌}
use Rattle.table.proofs.StoreLaws.{exchanged_store, exchanged_rows, swap_kept, swap_swapped}
use Rattle.table.proofs.swap_equal_blocks.Goals as goal

pub returns-clause-store : goal.returns-clause-store
returns-clause-store c =
    let (s, h, l) = c.requires.store in
    let τ = swap_swapped _ _ _ _ h l c.requires.used_bound.0 c.copy_words.ensures c.copy_words-2.ensures c.copy_words-3.ensures in
    exchanged_store _ s h l τ (c.copy_words-3.auto.words ∙ c.copy_words-2.auto.words ∙ c.copy_words.auto.words)

pub returns-clause-rows : goal.returns-clause-rows
returns-clause-rows c =
    let (s, h, l) = c.requires.store in
    let τ = swap_swapped _ _ _ _ h l c.requires.used_bound.0 c.copy_words.ensures c.copy_words-2.ensures c.copy_words-3.ensures in
    exchanged_rows _ s h l τ (swap_kept _ _ _ _ h l c.requires.used_bound.0 c.copy_words.ensures c.copy_words-2.ensures c.copy_words-3.ensures)
