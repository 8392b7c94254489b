-- `merge_search::compare_entries` meets its contract. Assumes nothing.
use Rattle.compare.proofs.OrderLaws.{numbers_compared}
use Rattle.merge_search.proofs.SearchLaws.{by_lines}
use Rattle.merge_search.proofs.compare_entries.Goals as goal

pub returns-then-lines_of_one : goal.returns-then-lines_of_one
returns-then-lines_of_one c = by_lines c.requires.0 c.requires.1 (c.lines_of_one.ensures (cc)) _ (numbers_compared c.args.x.k1 c.args.y.k1 c.cmp.ensures)
