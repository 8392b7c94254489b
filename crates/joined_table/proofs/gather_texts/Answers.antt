-- `joined_table::gather_texts` meets its contract. Assumes nothing.
use Rattle.std.proofs.Common.{◌≡◌, rules, Err}
use Rattle.joined_table.proofs.GatherLaws.{left-start, left-refused, left-next, left_done}
use Rattle.joined_table.proofs.gather_texts.Goals as goal

pub loop-i-init : goal.loop-i-init
loop-i-init c = search (left-start, rules)

pub returns-in_err-n : goal.returns-in_err-n
returns-in_err-n c =
    let e : c.from_residual.result ≡ Err c.in_err-n.field-0.0 = search rules in
    rw e (left-refused _ _ _ _ _ _ _ _ _ _ c.loop-i.invariant c.loop-i-test.true _ _ c.gather_text.ensures _ c.in_err-n.was)

pub loop-i-preserved : goal.loop-i-preserved
loop-i-preserved c = left-next _ _ _ _ _ _ _ _ _ _ c.loop-i.invariant c.loop-i-test.true _ _ c.gather_text.ensures _ _ c.in_ok-n.was c.next_marked-i-in-loop-i.ensures

pub returns : goal.returns
returns c = search (left_done, rules)
