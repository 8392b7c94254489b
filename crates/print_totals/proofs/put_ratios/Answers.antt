-- `print_totals::put_ratios` meets its contract. Assumes nothing.
use Rattle.std.proofs.Common.{rules}
use Rattle.print_totals.proofs.ColumnLaws.{first_fits, ratio_at, ratio_room, ratio_ends, ratio_len, ratio_out}
use Rattle.print_totals.proofs.put_ratios.Goals as goal

pub put_pair-at-requires : goal.put_pair-at-requires
put_pair-at-requires c = search (first_fits, rules)

pub slice_bounds-put_pair-count : goal.slice_bounds-put_pair-count
slice_bounds-put_pair-count c = search (ratio_at, rules)

pub slice_bounds-put_pair-start : goal.slice_bounds-put_pair-start
slice_bounds-put_pair-start c = search (ratio_at, rules)

pub put_pair-n-requires : goal.put_pair-n-requires
put_pair-n-requires c = search (ratio_room, rules)

pub overflow_add-result : goal.overflow_add-result
overflow_add-result c = search (ratio_ends, rules)

pub returns : goal.returns
returns c = search (ratio_len, ratio_out, rules)
