-- `bundle_revisions::same_pair` meets its contract. Assumes nothing.
use Rattle.std.proofs.Common.{rules, eqb}
use Rattle.bundle_revisions.proofs.RevisionLaws.{other-run, one-run}
use Rattle.bundle_revisions.proofs.same_pair.Goals as goal

pub returns-then-run_at : goal.returns-then-run_at
returns-then-run_at c = search (other-run, rules)

pub returns : goal.returns
returns c = one-run eqb c.run_at.ensures c.run_at-2.ensures c.if-run_at.false c.revision_at.ensures c.revision_at-2.ensures
