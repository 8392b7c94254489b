-- `program_io::put_refusal` meets its contract: the model's line, piece after piece. Assumes nothing.
use Rattle.std.proofs.Common.{rules, ◌≤◌, arith, length}
use Rattle.program_io.proofs.RefusedLaws.{refused_at_lem, refused-room, refused-ends, refused-within, refused-fits, refused_len, refused-out}
use Rattle.program_io.proofs.put_refusal.Goals as goal

-- the places begin within the buffer
places_within : (c : goal.After-struct_known-2-1) → c.put_bytes-head.result ≤ length c.put_bytes-head.new.out
places_within c =
    refused_at_lem c.args.refusal c.from-number.result c.from-number.ensures c.args.out.now c.requires c.put_bytes-head.new.out c.put_bytes-head.result
    c.put_bytes-head.ensures.value c.put_bytes-head.ensures.out_after

pub slice_bounds-put_places-count : goal.slice_bounds-put_places-count
slice_bounds-put_places-count c = places_within c

pub slice_bounds-put_places-start : goal.slice_bounds-put_places-start
slice_bounds-put_places-start c = let h = places_within c in search rules

pub put_places-n-requires : goal.put_places-n-requires
put_places-n-requires c =
    refused-room c.args.refusal c.from-number.result c.from-number.ensures c.args.out.now c.requires c.put_bytes-head.new.out c.put_bytes-head.result
    c.put_bytes-head.ensures.value c.put_bytes-head.ensures.out_after

pub overflow_add-end : goal.overflow_add-end
overflow_add-end c =
    refused-ends c.args.refusal c.from-number.result c.from-number.ensures c.args.out.now c.requires c.put_bytes-head.new.out c.put_bytes-head.result
    c.put_bytes-head.ensures.value c.put_bytes-head.ensures.out_after c.put_places-n.result c.put_places-n.ensures.0 (omega arith)

pub bounds-out-end : goal.bounds-out-end
bounds-out-end c =
    refused-within c.args.refusal c.from-number.result c.from-number.ensures c.args.out.now c.requires c.put_bytes-head.new.out c.put_bytes-head.result
    c.put_bytes-head.ensures.value c.put_bytes-head.ensures.out_after c.put_places-n.result c.put_places-n.ensures.0 c.put_places-n.new.out c.put_places-n.ensures.1

pub overflow_add-result : goal.overflow_add-result
overflow_add-result c =
    refused-fits c.args.refusal c.from-number.result c.from-number.ensures c.args.out.now c.requires c.put_bytes-head.new.out c.put_bytes-head.result
    c.put_bytes-head.ensures.value c.put_bytes-head.ensures.out_after c.put_places-n.result c.put_places-n.ensures.0 (omega arith)

pub returns : goal.returns
returns c = (
  refused_len c.args.refusal c.from-number.result c.from-number.ensures c.args.out.now c.requires c.put_bytes-head.new.out c.put_bytes-head.result
      c.put_bytes-head.ensures.value c.put_bytes-head.ensures.out_after c.put_places-n.result c.put_places-n.ensures.0,
  refused-out c.args.refusal c.from-number.result c.from-number.ensures c.args.out.now c.requires c.put_bytes-head.new.out c.put_bytes-head.result
      c.put_bytes-head.ensures.value c.put_bytes-head.ensures.out_after c.put_places-n.result c.put_places-n.ensures.0 c.put_places-n.new.out c.put_places-n.ensures.1,
)
