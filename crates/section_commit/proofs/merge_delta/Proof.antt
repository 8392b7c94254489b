-- `section_commit::merge_delta` meets its contract. Assumes nothing.
use mathlib.Core.Path.{refl}
use native.Mathlib.Omega.{arith}
use Rattle.table.proofs.StoreLaws.{behind-store}
use Rattle.section_commit.proofs.DeltaLaws.{cached_rising, main-all}
use borrow.Author.Rules.{rules}
use Rattle.section_commit.proofs.merge_delta.Statement.{statement}
use Rattle.section_commit.proofs.merge_delta.Tie as tie

abbrev start : tie.After-write_positions → tie.Start
start n = n.before.before.before.before

pub merge_delta_spec : {M : Type 1} → statement M
merge_delta_spec =
    tie.close
    (tie.spec
    (λ c κs. (c.before.before.before.requires.0, c.before.before.before.requires.1, omega (arith, c.before.before.before.requires.2, c.before.before.before.requires.0.delta.room)))
    (λ c κs. let s = start c.before.before.before in
    let η = cached_rising s.requires.0 c.before.before.before.write_positions.ensures in (
      (behind-store s.requires.0.main.store c.before.before.before.write_positions.ensures.kept s.requires.1 c.before.before.before.write_positions.auto.words, omega (arith, s.requires.0.delta.room)),
      (s.requires.1, omega (arith, s.requires.2, s.requires.0.delta.room, c.before.before.before.write_positions.auto.words), record { most = λ j l. η.most j (omega arith); rising = λ i j h l. η.rising i j h (omega arith) }),
    ))
    (λ c. let s = start c.before.before.before.before.before.before.before in omega (arith, s.requires.0.delta.room, s.requires.2))
    (λ c. search rules)
    (λ c. let s = start c.before.before.before.before.before.before.before in
    (main-all s.requires.0 c.before.before.before.before.before.before.before.write_positions.ensures s.requires.1 c.before.before.before.interleave.ensures.0 c.before.before.before.interleave.ensures.1, (refl, refl))))
