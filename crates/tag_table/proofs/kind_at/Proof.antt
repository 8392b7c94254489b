use borrow.Author.Rules.{rules}
use Rattle.tag_table.proofs.KindLaws.{last-place}
use Rattle.tag_table.proofs.kind_at.Statement.{statement}
use Rattle.tag_table.proofs.kind_at.Tie as tie

pub kind_at_spec : {M : Type 1} → statement M
kind_at_spec =
    tie.close
    (tie.spec
    (λ c. search rules)
    (λ c. search rules)
    (λ c. search rules)
    (λ c. search rules)
    (λ c. search rules)
    (λ c. search rules)
    (λ c. search rules)
    (λ c. search rules)
    (λ c. search rules)
    (λ c. search rules)
    (λ c. search rules)
    (λ c. search rules)
    (λ c. last-place _ c.before.requires c.in_default.in_default-own.rest))
