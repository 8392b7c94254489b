-- `section_tail::append_sorted` meets its contract. Assumes nothing.
use Rattle.std.proofs.Common.{arith}
use Rattle.section_tail.proofs.AddLaws.{calls_as, after_last, included_next}
use Rattle.section_tail.proofs.append_sorted.Goals as goal

pub returns-then-comes_before : goal.returns-then-comes_before
returns-then-comes_before c =
    let s = c.requires.open_section in
    let d = c.requires.delta_value in
    calls_as c.more_calls.ensures
    (after_last c.args.row c.args.accumulate s.0 s.3 s.1 d.0 d.1 d.2 s.2 c.get-last.ensures (cc) c.put.ensures.store c.put.ensures.rows)

pub returns-then-calls_fit : goal.returns-then-calls_fit
returns-then-calls_fit c =
    let s = c.requires.open_section in
    let d = c.requires.delta_value in
    let p = c.put-then-calls_fit.ensures in
    calls_as c.more_calls-then-calls_fit.ensures
    (included_next c.args.row c.args.accumulate s.0 s.3 (c.calls_fit.ensures c.if-calls_fit.true) c.requires.used_bound.0 s.2 p.store p.spare
    (omega (arith, s.1, d.0)) d.0 d.2 p.rows)
