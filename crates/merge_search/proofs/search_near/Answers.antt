-- `merge_search::search_near` meets its contract. Assumes nothing.
use Rattle.std.proofs.Common.{arith}
use Rattle.merge_search.proofs.SearchLaws.{passed-up, partition_here, between_known, between_gap}
use Rattle.merge_search.proofs.search_near.Goals as goal

pub returns-then-key-here : goal.returns-then-key-here
returns-then-key-here c =
    between_known c.args.key c.requires.entries_ascending.1 c.requires.entries_ascending.0 c.args.at (omega arith) c.requires.from_lt_at.1 (c.is_between.ensures cc)
    c.get-here.ensures (omega arith)

pub returns-then-is_between : goal.returns-then-is_between
returns-then-is_between c =
    between_gap c.args.key c.requires.entries_ascending.1 c.requires.entries_ascending.0 c.args.at (omega arith) c.requires.from_lt_at.1 (c.is_between.ensures cc)
    c.get-here.ensures (omega arith)

pub gallop_search-requires : goal.gallop_search-requires
gallop_search-requires c =
    let r = c.requires.entries_ascending in
    (r.0, r.1, omega arith, passed-up c.args.key r.0 c.args.at c.requires.from_lt_at.1 (cc))

pub resolve-requires : goal.resolve-requires
resolve-requires c =
    let r = c.requires.entries_ascending in
    (r.0, r.1, partition_here c.args.key r.0 c.args.at (omega arith) c.requires.from_lt_at.1 (cc) (cc))
