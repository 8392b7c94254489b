-- `section_commit::commit_in_place` meets its contract: main's rows of the key are marked deleted, and the section
-- replaces some of them. Assumes nothing.
use native.Mathlib.Omega.{arith}
use Rattle.table_section.proofs.RangeLaws.{range-ends}
use Rattle.section_commit.proofs.KeptLaws.{bounds, range_front, none-delta_has, room, committed_placed}
use borrow.Author.Rules.{rules}
use Rattle.section_commit.proofs.commit_in_place.Statement.{statement}
use Rattle.section_commit.proofs.commit_in_place.Tie as tie

abbrev start : tie.After-header_row-header → tie.Start
start o = o.before.before.before.before

abbrev begun : tie.After-mark_deleted → tie.Start
begun b = start b.before.before

abbrev marked : tie.After-splice → tie.After-mark_deleted
marked p = p.before.before.before.before.before

pub commit_in_place_spec : {M : Type 1} → statement M
commit_in_place_spec =
    tie.close
    (tie.spec
    (λ c. search rules)
    (λ c κs. search rules)
    (λ c κs. let s = start c.before in
    let ρ = s.requires.1.0.0 in
    ((s.requires.0.0.main.store, range-ends ρ, omega (arith, ρ.high.most, s.requires.0.1.room)), range_front s.requires.0.0 ρ))
    (λ c. let s = begun c.before.before.before in
    let β = bounds s.requires.0.0 s.requires.1.0.0 s.requires.0.1.room c.before.before.before.mark_deleted.ensures.1 in omega arith)
    (λ c. search rules)
    (λ c. search rules)
    (λ c κs. let s = begun c.before.before.before.before in
    let β = bounds s.requires.0.0 s.requires.1.0.0 s.requires.0.1.room c.before.before.before.before.mark_deleted.ensures.1 in (
      (c.before.before.before.before.mark_deleted.ensures.0, omega arith, omega (arith, s.requires.1.0.1), omega arith),
      (s.requires.1.1.0.2, omega (arith, s.requires.1.1.0.3, c.before.before.before.before.mark_deleted.auto.words)),
    ))
    (λ c. search rules)
    (λ c. let b = marked c.before.before in
    let s = begun b in
    let π = s.requires.0.0 in
    let ρ = s.requires.1.0.0 in
    room π s.requires.0.1 s.requires.0.2 s.requires.1.1.0.0 s.requires.1.1.0.1 ρ b.before.before.header_row-header.ensures b.mark_deleted.ensures.0
    b.mark_deleted.ensures.1 (none-delta_has π ρ (omega (arith, s.requires.1.0.1)) s.requires.1.1.1).1 _ s.requires.1.0.1 c.before.before.splice.ensures.1.0
    c.before.before.splice.ensures.0)
    (λ c. search rules)
    (λ c. let b = marked c.before.before in
    let s = begun b in
    let π = s.requires.0.0 in
    let ρ = s.requires.1.0.0 in
    committed_placed π s.requires.0.1 s.requires.0.2 s.requires.1.1.0.0 s.requires.1.1.0.1 ρ b.before.before.header_row-header.ensures b.mark_deleted.ensures.0
    b.mark_deleted.ensures.1 (none-delta_has π ρ (omega (arith, s.requires.1.0.1)) s.requires.1.1.1).1 _ s.requires.1.0.1 c.before.before.splice.ensures.1.0
    c.before.before.splice.ensures.0))
