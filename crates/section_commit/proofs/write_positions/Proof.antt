-- `section_commit::write_positions` meets its contract: the insert positions of the first j are written. Assumes
-- nothing.
use Prim.Native.Nat.{◌-◌}
use native.Mathlib.Omega.{arith}
use Rattle.section_commit.proofs.DeltaLaws.{WritingPositions, writing_none, writing_parts, writing_last, writing_run, writing_done}
use Rattle.section_commit.proofs.write_positions.Statement.{statement}
use Rattle.section_commit.proofs.write_positions.Tie as tie

abbrev invariant-loop : tie.invariant-loop-j
invariant-loop text words₀ index used spare parts j₀ words j = WritingPositions text words₀ words index spare parts.main parts.delta j

abbrev decreases-loop : tie.decreases-loop-j
decreases-loop text words₀ index used spare parts j₀ words j = parts.delta - j

abbrev start : tie.At-loop-j invariant-loop decreases-loop → tie.Start invariant-loop decreases-loop
start l = l.before.before.before

pub write_positions_spec : {M : Type 1} → statement M
write_positions_spec =
    tie.close
    (tie.spec
    invariant-loop
    decreases-loop
    (λ c. writing_none _ _ _ _ _ _)
    (λ c κs. let s = start c.before.before in (
      (writing_parts s.requires.0 s.requires.1 c.before.before.loop-j.invariant, omega arith, omega (arith, s.requires.2, c.before.before.loop-j.invariant.size)),
      writing_last s.requires.0 s.requires.1 c.before.before.loop-j.invariant (omega arith),
    ))
    (λ c κs. let s = start c.before.before.before in (writing_parts s.requires.0 s.requires.1 c.before.before.before.loop-j.invariant, omega arith))
    (λ c. omega (arith, (start c.before.before.before.before.before).requires.2))
    (λ c. omega (arith, c.before.section_rest-rest.ensures.0, (start c.before.before.before.before.before).requires.2))
    (λ c κs. omega (arith, c.before.section_rest-rest.ensures.0, (start c.before.before.before.before.before).requires.2, c.before.before.before.before.before.loop-j.invariant.size))
    (λ c. omega (arith, c.before.before.before.before.section_rest-rest.ensures.0, (start c.before.before.before.before.before.before.before.before).requires.2))
    (λ c. omega (arith, c.before.before.before.before.section_rest-rest.ensures.0, (start c.before.before.before.before.before.before.before.before).requires.2))
    (λ c. omega arith)
    (λ c. let s = start c.before.before.before.before.before.before.before.before in
    writing_run s.requires.0 s.requires.1 c.before.before.before.before.before.before.before.before.loop-j.invariant c.before.before.before.before.before.position_of-place.result c.before.before.before.before.section_rest-rest.result c.before.before.before.before.before.position_of-place.ensures c.before.before.before.before.section_rest-rest.ensures.0
    c.before.before.before.before.section_rest-rest.ensures.1 c.before.before.fill.ensures c.before.before.fill.auto.words)
    (λ c. c.before.before.loop-j.invariant.size)
    (λ c. writing_done c.before.before.loop-j.invariant c.loop-j-test.false))
