-- `section_commit::maintain` meets its contract. Assumes nothing.
use native.Mathlib.Omega.{arith}
use Rattle.section_commit.proofs.CompactLaws.{many_compacted, many_same}
use borrow.Author.Rules.{rules}
use Rattle.section_commit.proofs.maintain.Statement.{statement}
use Rattle.section_commit.proofs.maintain.Tie as tie

pub maintain_spec : {M : Type 1} → statement M
maintain_spec =
    tie.close
    (tie.spec
    (λ c κs. search rules)
    (λ c. search rules)
    (λ c. (many_compacted c.before.before.merge_and_compact-all.ensures, omega arith))
    (λ c κs. search rules)
    (λ c. search rules)
    (λ c. (c.before.before.merge_delta.ensures.0, omega (arith, c.before.before.merge_delta.ensures.1)))
    (λ c. (many_same c.before.before.before.before.before.before.args.kept c.before.before.before.before.before.before.requires.0, omega arith)))
