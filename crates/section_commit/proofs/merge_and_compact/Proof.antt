-- `section_commit::merge_and_compact` meets its contract. Assumes nothing.
use native.Mathlib.Omega.{arith}
use Rattle.section_commit.proofs.CompactLaws.{all_whole, all_compacted}
use borrow.Author.Rules.{rules}
use Rattle.section_commit.proofs.merge_and_compact.Statement.{statement}
use Rattle.section_commit.proofs.merge_and_compact.Tie as tie

abbrev start : tie.After-merge_delta-all → tie.Start
start t = t.before.before.before.before

abbrev main-size : tie.Else-all-eq0 → tie.After-merge_delta-all
main-size e = e.before.before.before.before

pub merge_and_compact_spec : {M : Type 1} → statement M
merge_and_compact_spec =
    tie.close
    (tie.spec
    (λ c κs. search rules)
    (λ c. search rules)
    (λ c. all_whole c.before.before.before.before.merge_delta-all.result c.before.before.before.before.merge_delta-all.ensures.1.0 c.before.before.before.before.merge_delta-all.ensures.0 (omega arith))
    (λ c κs. let t = main-size c.before in
    let s = start t in
    let π = t.merge_delta-all.ensures.0.held in
    ((π.main.store, omega (arith, π.main.room)), (s.requires.1, omega (arith, π.main.room, s.requires.2, t.merge_delta-all.auto.words))))
    (λ c. search rules)
    (λ c. let t = main-size c.before.before.before.before in
    all_compacted t.merge_delta-all.result t.merge_delta-all.ensures.1.0 t.merge_delta-all.ensures.0 c.before.before.compact.ensures.0 c.before.before.compact.ensures.1))
