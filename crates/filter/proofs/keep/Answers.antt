-- `filter::keep` meets its contract. Assumes nothing.
use Rattle.std.proofs.Common.{arith}
use Rattle.filter.proofs.KeepLaws.{keep_start, left-rows, ahead-here, ahead-next, keep_gone, keep_kept, keep_done}
use Rattle.filter.proofs.BoundLaws.{ahead-start}
use Rattle.filter.proofs.keep.Goals.{then-last, else-last}
use Rattle.filter.proofs.keep.Goals as goal

pub loop-i-init : goal.loop-i-init
loop-i-init c = record { rows = keep_start _ _ _ _ _; ahead = ahead-start c.args.rule c.requires.behind.1 }

pub look-last-requires-clause-printable : goal.look-last-requires-clause-printable
look-last-requires-clause-printable c = (c.requires.behind.0, (left-rows c.loop-i.invariant.rows c.requires.behind.1 (omega arith)).printable)

pub look-last-requires-clause-ahead : goal.look-last-requires-clause-ahead
look-last-requires-clause-ahead c = ahead-here c.loop-i.invariant.rows c.requires.behind.1.before c.loop-i.last (omega arith) c.loop-i.invariant.ahead

pub loop-i-preserved : goal.loop-i-preserved
loop-i-preserved c =
    let κ = c.loop-i.invariant.rows in
    record {
      rows = elim c.if-last.branch [
        | then-last w ↦ rw (w.words-is, w.kept-is) (keep_kept κ (omega arith) c.requires.behind.1.printable.numbered.words _ c.look-last.ensures.stays w.if-last.true)
        | else-last w ↦ rw (w.words-is, w.kept-is) (keep_gone κ (omega arith) _ c.look-last.ensures.stays w.if-last.false)
      ];
      ahead = ahead-next κ c.requires.behind.1.before c.look-last.result (omega arith) c.look-last.ensures.ahead_next;
    }

pub returns : goal.returns
returns c = keep_done c.loop-i.invariant.rows c.loop-i-test.false
