-- `hit_bounds::keys_agree` meets its contract. Assumes nothing.
use Rattle.std.proofs.Common.{arith, true, false}
use Rattle.hit_bounds.proofs.ListLaws.{all-next, key_at_lem, keys-long, keys_differ, keys-same}
use Rattle.hit_bounds.proofs.keys_agree.Goals as goal

pub returns-then-n-h : goal.returns-then-n-h
returns-then-n-h c = keys-long _ _ _ _ (λ e. omega arith)

pub same_key-requires : goal.same_key-requires
same_key-requires c =
    (rw c.get-x.ensures (c.requires.0.sections.whole c.loop-i.i (omega arith)), rw c.get-y.ensures (c.requires.1.sections.whole c.loop-i.i (omega arith)))

pub loop-i-preserved : goal.loop-i-preserved
loop-i-preserved c = all-next _ _ c.loop-i.invariant (key_at_lem _ _ _ _ _ _ _ c.get-x.ensures c.get-y.ensures c.same_key.ensures true (cc))

pub returns-then-not-same_key : goal.returns-then-not-same_key
returns-then-not-same_key c = keys_differ _ _ _ _ c.loop-i.i (omega arith) (omega arith) (key_at_lem _ _ _ _ _ _ _ c.get-x.ensures c.get-y.ensures c.same_key.ensures false (cc))

pub returns : goal.returns
returns c = keys-same _ _ _ _ _ (omega arith) (omega arith) c.loop-i.invariant
