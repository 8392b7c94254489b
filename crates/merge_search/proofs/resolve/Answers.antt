-- `merge_search::resolve` meets its contract. Assumes nothing.
use Rattle.std.proofs.Common.{arith}
use Rattle.compare.proofs.OrderLaws.{tells_equal}
use Rattle.merge_search.proofs.SearchLaws.{result_gap}
use Rattle.merge_search.proofs.resolve.Goals as goal

pub returns : goal.returns
returns c =
    let e = tells_equal _ c.compare_entries.ensures c.is_eq.ensures in
    result_gap c.args.text.now c.args.words.now c.args.index c.args.n c.args.i c.args.key c.requires.2 (omega arith) (cc)
