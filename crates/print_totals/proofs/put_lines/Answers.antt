-- `print_totals::put_lines` meets its contract. Assumes nothing.
use Rattle.std.proofs.Common.{rules}
use Rattle.print_totals.proofs.ColumnLaws.{ratio_fits, share_at, share-room, share-fits, share_len, share-out}
use Rattle.print_totals.proofs.put_lines.Goals as goal

pub put_pair-at-requires : goal.put_pair-at-requires
put_pair-at-requires c = search (ratio_fits, rules)

pub slice_bounds-put_share-count : goal.slice_bounds-put_share-count
slice_bounds-put_share-count c = search (share_at, rules)

pub slice_bounds-put_share-start : goal.slice_bounds-put_share-start
slice_bounds-put_share-start c = search (share_at, rules)

pub put_share-n-requires : goal.put_share-n-requires
put_share-n-requires c = search (share-room, rules)

pub overflow_add-result : goal.overflow_add-result
overflow_add-result c = search (share-fits, rules)

pub returns : goal.returns
returns c = search (share_len, share-out, rules)
