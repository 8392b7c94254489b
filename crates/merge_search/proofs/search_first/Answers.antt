-- `merge_search::search_first` meets its contract. Assumes nothing.
use Rattle.std.proofs.Common.{arith}
use Rattle.compare.proofs.OrderLaws.{tells_less, tells_equal}
use Rattle.merge_search.proofs.SearchLaws.{passed-greater}
use Rattle.merge_search.proofs.search_first.Goals as goal

pub gallop_search-requires : goal.gallop_search-requires
gallop_search-requires c =
    let e = tells_equal _ c.compare_entries-order.ensures c.is_eq.ensures in
    let l = tells_less _ c.compare_entries-order.ensures c.is_lt.ensures in
    (c.requires.0, c.requires.1, omega arith, passed-greater c.args.key c.requires.0 c.args.from (omega arith) (cc) (cc))
