-- `filter::keep_held` meets its contract. Assumes nothing.
use lib.ListN.{take}
use Rattle.line_num_pairs.specs.Pairs.{ranges_in}
use Rattle.filter.proofs.RowsLaws.{moved-rows, moved-chosen}
use Rattle.model.specs.Lists.{filter}
use Rattle.model.specs.Filter.{is_held}
use Rattle.filter.proofs.keep_held.Goals as goal

pub keep-requires-clause-behind : goal.keep-requires-clause-behind
keep-requires-clause-behind c =
    (c.requires.behind.0, moved-rows c.copy_words.ensures c.copy_words.auto.words c.requires.n_bound.0 c.requires.n_bound.1 c.requires.behind.1)

pub returns : goal.returns
returns c =
    moved-chosen c.copy_words.ensures c.copy_words.auto.words c.requires.n_bound.0 c.requires.n_bound.1
    (filter (is_held (take c.args.count (ranges_in c.args.pairs.now)))) c.keep.ensures
