-- `section_commit::is_live_at` meets its contract. Assumes nothing.
use mathlib.Core.Path.{sym, ap, ◌∙◌}
use native.Mathlib.Omega.{arith}
use Rattle.ordmap.proofs.Results.{impossible}
use Rattle.table_tombstone.specs.Live.{is_live}
use borrow.Author.Rules.{rules}
use Rattle.section_commit.proofs.is_live_at.Statement.{statement}
use Rattle.section_commit.proofs.is_live_at.Tie as tie

pub is_live_at_spec : {M : Type 1} → statement M
is_live_at_spec =
    tie.close
    (tie.spec
    (λ c e. impossible cc)
    (λ c κs. search rules)
    (λ c e. (omega arith, ap is_live (sym c.before.get-first.ensures) ∙ e)))
