-- `section_commit::commit_section` meets its contract: one law for each way out. Assumes nothing.
use mathlib.Core.Path.{◌∙◌}
use native.Mathlib.Omega.{arith}
use Rattle.table_section.proofs.RangeLaws.{range-ends}
use Rattle.section_commit.proofs.CommittedLaws.{committed_empty, committed_as, committed_named}
use Rattle.section_commit.proofs.LastLaws.{committed_last}
use borrow.Author.Rules.{rules}
use Rattle.section_commit.proofs.commit_section.Statement.{statement}
use Rattle.section_commit.proofs.commit_section.Tie as tie

abbrev known : tie.After-equal_range-range → tie.After-with_known_test-known
known f = f.before

abbrev start : tie.After-equal_range-range → tie.Start
start f = (known f).before.before.before.before

abbrev found : tie.Then-range-main → tie.After-equal_range-range
found t = t.before.before.before.before

abbrev kept : tie.After-commit-after → tie.After-equal_range-range
kept k = k.before.before.before.before

pub commit_section_spec : {M : Type 1} → statement M
commit_section_spec =
    tie.close
    (tie.spec
    (λ c. (committed_empty c.before.before.before.args.key c.before.before.before.requires.0.0 (omega arith), omega arith))
    (λ c κs. search rules)
    (λ c κs. search rules)
    (λ c κs. let f = found c.before in
    let s = start f in (
      (s.requires.0.0.main.store, range-ends f.equal_range-range.ensures, f.equal_range-range.ensures.high.most, omega (arith, s.requires.0.1.room)),
      (s.requires.1.0.2, omega (arith, s.requires.1.0.3)),
    ))
    (λ c. search rules)
    (λ c. let f = found c.before.before.before.before in
    let s = start f in
    let σ = (known f).with_known_test-known.ensures in (
      committed_named σ (committed_last _ s.requires.0.0 s.requires.0.1 (omega arith) σ.named (σ.tag ∙ s.requires.1.0.1) f.equal_range-range.ensures (omega arith)
          (omega arith) c.before.before.splice-grown.ensures.1.0 c.before.before.splice-grown.ensures.0 c.before.before.splice-grown.ensures.1.1.1),
      omega arith,
    ))
    (λ c κs. let s = start c.before.before.before in
    let σ = (known c.before.before.before).with_known_test-known.ensures in
    ((s.requires.0.0, s.requires.0.1, omega arith), (c.before.before.before.equal_range-range.ensures, (σ.named, σ.tag ∙ s.requires.1.0.1, s.requires.1.0.2, s.requires.1.0.3))))
    (λ c κs. let s = start (kept c.before.before.before) in (c.before.before.before.commit-after.ensures.held, s.requires.1.0.2, omega (arith, s.requires.1.0.3, c.before.before.before.commit-after.auto.words)))
    (λ c. search rules)
    (λ c. (committed_named (known (kept c.before.before.before.before.before.before)).with_known_test-known.ensures (committed_as c.before.before.before.before.before.before.commit-after.ensures c.before.before.maintain.ensures.0), c.before.before.maintain.ensures.1)))
