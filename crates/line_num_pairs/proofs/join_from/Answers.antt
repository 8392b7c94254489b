-- `line_num_pairs::join_from` meets its contract. Assumes nothing.
use Rattle.std.proofs.Common.{rules, arith, ◌≡◌}
use Rattle.line_num_pairs.proofs.JoinLaws.{joining_next, joined-stop, joined-all}
use Rattle.line_num_pairs.proofs.join_from.Goals as goal

pub returns-then-end-next-clause-joined : goal.returns-then-end-next-clause-joined
returns-then-end-next-clause-joined c = joined-stop _ _ _ _ _ _ _ _ c.loop-past.invariant.joining (omega arith) c.requires.2 _ c.range_at-next.ensures (omega arith)

pub loop-past-preserved : goal.loop-past-preserved
loop-past-preserved c = record { least = omega arith; joining = search (joining_next, rules) }

pub returns-clause-joined : goal.returns-clause-joined
returns-clause-joined c =
    let all : c.loop-past.past ≡ c.args.used = omega arith in
    rw all at (joined-all _ _ _ _ _ _ _ _ c.loop-past.invariant.joining (omega arith))
