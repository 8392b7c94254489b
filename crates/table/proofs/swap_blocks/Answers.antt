-- `table::swap_blocks` meets its contract: two equal blocks are swapped; otherwise two blocks are moved, or one where
-- the first is empty. Assumes nothing.
use Rattle.table.proofs.PlaceLaws.{swapped}
use Rattle.table.proofs.swap_blocks.Goals as goal

pub returns-then-lo-hi-clause-rows : goal.returns-then-lo-hi-clause-rows
returns-then-lo-hi-clause-rows c =
    let p = c.requires.store in
    swapped p.1 p.2 p.3 p.4 c.move_block.ensures.rows c.move_block-then-lo-hi.ensures.rows
