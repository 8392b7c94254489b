-- `section_commit::commit` meets its contract: in place of a section of main, or to the delta. Assumes nothing.
use native.Mathlib.Omega.{arith}
use Rattle.table_section.proofs.RangeLaws.{range-ends}
use Rattle.section_commit.proofs.KeptLaws.{range_at_lem, committed_delta}
use borrow.Author.Rules.{rules}
use Rattle.section_commit.proofs.commit.Statement.{statement}
use Rattle.section_commit.proofs.commit.Tie as tie

abbrev start : tie.After-struct_known-1 → tie.Start
start k = k.before.before.before

abbrev begun : tie.After-equal_range-among → tie.Start
begun f = start f.before.before

abbrev found : tie.After-with_position-header → tie.After-equal_range-among
found w = w.before.before.before

pub commit_spec : {M : Type 1} → statement M
commit_spec =
    tie.close
    (tie.spec
    (λ c. search rules)
    (λ c. omega (arith, range-ends (start c).requires.1.0))
    (λ c κs. search rules)
    (λ c κs. let s = start c.before.before.before.before in (s.requires.0, ((s.requires.1.0, omega arith), (s.requires.1.1, (c.before.before.is_live_at.ensures (cc)).1))))
    (λ c. search rules)
    (λ c. search rules)
    (λ c κs. search rules)
    (λ c κs. let s = begun c.before.before.before in (s.requires.0, (s.requires.1.0, (range_at_lem c.before.before.before.equal_range-among.ensures (omega arith), s.requires.1.1))))
    (λ c. search rules)
    (λ c. search rules)
    (λ c κs. search rules)
    (λ c κs. let f = found c.before in
    let s = begun f in (
      (s.requires.0.0.main.store, range-ends f.equal_range-among.ensures, f.equal_range-among.ensures.high.most, omega (arith, s.requires.0.1.room)),
      (s.requires.1.1.2, omega (arith, s.requires.1.1.3)),
    ))
    (λ c. search rules)
    (λ c. let f = found c.before.before.before.before in
    let s = begun f in
    committed_delta s.requires.0.0 s.requires.0.1 s.requires.0.2 s.requires.1.1.0 s.requires.1.1.1 s.requires.1.0 _ f.equal_range-among.ensures (λ h. omega arith)
    c.before.before.before.before.with_position-header.ensures c.before.before.splice-grown.ensures.1.0 c.before.before.splice-grown.ensures.1.1.0 c.before.before.splice-grown.ensures.0 c.before.before.splice-grown.ensures.1.1.1))
