-- `program_io::put_places` meets its contract. Assumes nothing.
use Rattle.std.proofs.Common.{rules}
use Rattle.program_io.proofs.RefusedLaws.{places-first, places_at, places-room, places-fits, places_len, places-out}
use Rattle.program_io.proofs.put_places.Goals as goal

pub put_pair-at-requires : goal.put_pair-at-requires
put_pair-at-requires c = search (places-first, rules)

pub slice_bounds-put_pair-count : goal.slice_bounds-put_pair-count
slice_bounds-put_pair-count c = search (places_at, rules)

pub slice_bounds-put_pair-start : goal.slice_bounds-put_pair-start
slice_bounds-put_pair-start c = search (places_at, rules)

pub put_pair-n-requires : goal.put_pair-n-requires
put_pair-n-requires c = search (places-room, rules)

pub overflow_add-result : goal.overflow_add-result
overflow_add-result c = search (places-fits, rules)

pub returns : goal.returns
returns c = search (places_len, places-out, rules)
