-- `line_num::rewrite` meets its contract: each step is the model's. Assumes nothing.
use Rattle.std.proofs.Common.{rules, ◌<◌, ap, refl, ◌∙◌, arith, length, get_or, length-set}
use Rattle.line_num_pairs.specs.Pairs.{pair}
use Rattle.line_num.specs.declared.Put.{Put}
use Rattle.line_num.specs.Steps.{read_at}
use Rattle.line_num.proofs.StepLaws.{read-inside, put_inside, next_list, next_pass, turns_begun, turns_done}
use Rattle.line_num.proofs.rewrite.Goals as goal

-- the position that a step reads is in the slice
reads_inside : (c : goal.After-read_at-k) → c.read_at-k.result < length c.loop-t.list
reads_inside c =
    let within : read_at c.args.plan c.loop-t.t < length c.args.list.now = read-inside c.args.plan c.loop-t.t (length c.args.list.now) c.requires c.loop-t-test.true in
    omega (arith, within, c.read_at-k.ensures, c.loop-t.invariant.long)

-- so is the one that it writes
puts_inside : (c : goal.After-list-1) → c.put_at-put.result.at < length c.loop-t.list
puts_inside c =
    let within : read_at c.args.plan c.loop-t.t < length c.args.list.now = read-inside c.args.plan c.loop-t.t (length c.args.list.now) c.requires c.loop-t-test.true in
    let told = ap (λ (u : Put). u.at) c.put_at-put.ensures in
    omega (arith, within, c.read_at-k.ensures, c.loop-t.invariant.long, told, put_inside c.args.plan c.loop-t.found c.loop-t.t c.read_at-k.result (get_or c.loop-t.list c.read_at-k.result (pair 0 0)))

pub loop-t-init : goal.loop-t-init
loop-t-init c =
    let begun = turns_begun c.args.plan c.args.list.now c.scan_start-found.result c.scan_start-found.ensures in
    record { long = refl; list = begun.0; pass = begun.1 }

pub offset_bounds-list-k : goal.offset_bounds-list-k
offset_bounds-list-k c = let h = reads_inside c in search rules

pub slice_copy_out-x : goal.slice_copy_out-x
slice_copy_out-x c = reads_inside c

pub offset_bounds-list-at : goal.offset_bounds-list-at
offset_bounds-list-at c = let h = puts_inside c in search rules

pub bounds-list-at : goal.bounds-list-at
bounds-list-at c = puts_inside c

pub loop-t-preserved : goal.loop-t-preserved
loop-t-preserved c = record {
  long = length-set c.loop-t.list c.put_at-put.result.at c.put_at-put.result.range ∙ c.loop-t.invariant.long;
  list = next_list c.args.plan c.args.list.now c.loop-t.t c.read_at-k.result c.loop-t.list c.loop-t.found c.loop-t.invariant.list c.loop-t.invariant.pass c.read_at-k.ensures c.put_at-put.result c.put_at-put.ensures;
  pass = next_pass c.args.plan c.args.list.now c.loop-t.t c.read_at-k.result c.loop-t.list c.loop-t.found c.loop-t.invariant.list c.loop-t.invariant.pass c.read_at-k.ensures c.scanned-found.result c.scanned-found.ensures;
}

pub returns : goal.returns
returns c = turns_done c.args.plan c.args.list.now c.loop-t.t c.loop-t.list c.loop-t.invariant.list (omega arith) c.loop-t-test.false
