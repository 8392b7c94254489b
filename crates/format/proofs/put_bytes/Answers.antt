-- `format::put_bytes` meets its contract. Assumes nothing.
use Rattle.std.proofs.Common.{rules}
use Rattle.format.proofs.PutLaws.{put_start, put_next, put_out}
use Rattle.format.proofs.put_bytes.Goals as goal

pub loop-i-init : goal.loop-i-init
loop-i-init c = put_start c.args.s.now c.args.out.now

pub loop-i-preserved : goal.loop-i-preserved
loop-i-preserved c = put_next c.args.s.now c.args.out.now c.loop-i.out c.loop-i.i c.loop-i.invariant c.if-out-s.false c.loop-i-test.true

pub returns-clause-out_after : goal.returns-clause-out_after
returns-clause-out_after c = search (put_out, rules)
