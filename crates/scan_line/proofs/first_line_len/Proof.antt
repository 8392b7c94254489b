-- The invariant: i bytes are passed, and what is left has the rest of the length.
use Rattle.std.proofs.Common.{◌≡◌, ◌+◌, ◌-◌, ◌≤◌, length, drop, arith, rules}
use Rattle.model.specs.Bytes.{before}
use Rattle.scan.proofs.ByteLaws.{found_here}
use Rattle.scan_line.proofs.PlainLaws.{passed, searched}
use Rattle.scan_line.proofs.first_line_len.Statement.{statement}
use Rattle.scan_line.proofs.first_line_len.Tie as tie

abbrev invariant-loop : tie.invariant-loop-i
invariant-loop s i₀ i = (i ≤ length s) × (i + length (before 10 (drop i s)) ≡ length (before 10 s))

abbrev decreases-loop : tie.decreases-loop-i
decreases-loop s i₀ i = length s - i

-- the bytes that a word tells
told : (p : tie.After-plain_count-n invariant-loop decreases-loop) → let l = p.before.before.before in
    l.loop-i.i + p.plain_count-n.result + length (before 10 (drop (l.loop-i.i + p.plain_count-n.result) l.before.before.args.s.now)) ≡ length (before 10 l.before.before.args.s.now)
told p =
    passed p.before.before.before.before.before.args.s.now p.before.before.before.loop-i.i _ p.before.before.before.before.shared_slice_known-1.given (omega arith) p.before.whole_word.ensures p.plain_count-n.ensures.1 p.plain_count-n.ensures.0 p.before.before.before.loop-i.invariant.1

pub first_line_len_spec : {M : Type 1} → statement M
first_line_len_spec =
    tie.close
    (tie.spec
    invariant-loop
    decreases-loop
    (λ c. search rules)
    (λ c. search rules)
    (λ c κs. search rules)
    (λ c κs. search rules)
    (λ c. search rules)
    (λ c. search rules)
    (λ c. search rules)
    (λ c. (found_here _ 10 _ (told c.before.before.before) (omega arith) c.if-s-i-eq10.true, omega arith))
    (λ c. search rules)
    (λ c. search rules)
    (λ c. search rules)
    (λ c κs. search rules)
    (λ c. search rules)
    (λ c. searched _ _ _ c.before.before.before.before.before.before.before.before.loop-i.invariant.0 c.before.before.before.before.before.before.before.before.loop-i.invariant.1 c.find.ensures)
    (λ c. search rules)
    (λ c. search rules)
    (λ c. let e : c.before.plain_count-n.result ≡ 8 = omega (arith, c.before.plain_count-n.ensures.1) in
    (omega arith, rw e at (told c.before)))
    (λ c. search rules)
    (λ c. search rules)
    (λ c. search rules)
    (λ c κs. search rules)
    (λ c. search rules)
    (λ c. searched _ _ _ c.before.before.before.loop-i.invariant.0 c.before.before.before.loop-i.invariant.1 c.find-2.ensures))
