-- `section_commit::commit_delta` meets its contract: main's rows of the key are marked deleted, and the section is
-- spliced into the delta. Assumes nothing.
use native.Mathlib.Omega.{arith}
use Rattle.table_section.proofs.RangeLaws.{range-ends}
use Rattle.section_commit.proofs.KeptLaws.{bounds, range_front, committed_moved}
use borrow.Author.Rules.{rules}
use Rattle.section_commit.proofs.commit_delta.Statement.{statement}
use Rattle.section_commit.proofs.commit_delta.Tie as tie

abbrev start : tie.After-header_row-spelled → tie.Start
start o = o.before.before.before

abbrev begun : tie.After-mark_deleted → tie.Start
begun b = start b.before.before

abbrev marked : tie.After-with_position-header → tie.After-mark_deleted
marked w = w.before.before.before.before

pub commit_delta_spec : {M : Type 1} → statement M
commit_delta_spec =
    tie.close
    (tie.spec
    (λ c κs. search rules)
    (λ c κs. let s = start c.before in
    let ρ = s.requires.1.0 in
    ((s.requires.0.0.main.store, range-ends ρ, omega (arith, ρ.high.most, s.requires.0.1.room)), range_front s.requires.0.0 ρ))
    (λ c. let s = begun c.before.before.before in
    let β = bounds s.requires.0.0 s.requires.1.0 s.requires.0.1.room c.before.before.before.mark_deleted.ensures.1 in omega arith)
    (λ c κs. search rules)
    (λ c κs. let b = marked c.before in
    let s = begun b in
    let β = bounds s.requires.0.0 s.requires.1.0 s.requires.0.1.room b.mark_deleted.ensures.1 in (
      (b.mark_deleted.ensures.0, omega arith, s.requires.1.1.0.high.most, omega arith),
      (s.requires.1.1.1.2, omega (arith, s.requires.1.1.1.3, b.mark_deleted.auto.words)),
    ))
    (λ c. search rules)
    (λ c. let b = marked c.before.before.before.before in
    let s = begun b in
    committed_moved s.requires.0.0 s.requires.0.1 s.requires.0.2 s.requires.1.1.1.0 s.requires.1.1.1.1 s.requires.1.0 b.before.before.header_row-spelled.ensures
    b.mark_deleted.ensures.0 b.mark_deleted.ensures.1 s.requires.1.1.0 _ c.before.before.before.before.with_position-header.ensures c.before.before.splice-grown.ensures.1.0 c.before.before.splice-grown.ensures.1.1.0
    c.before.before.splice-grown.ensures.0 c.before.before.splice-grown.ensures.1.1.1))
