use borrow.Author.Rules.{rules}
use Rattle.model.specs.Tags.{default_tag}
use Rattle.tag_table.proofs.DefaultLaws.{tag_is}
use Rattle.tag_table.proofs.default.tag_of.Statement.{statement}
use Rattle.tag_table.proofs.default.tag_of.Tie as tie

pub tag_of_spec : {M : Type 1} → statement M
unfolding default_tag
tag_of_spec =
    tie.close
    (tie.spec
    (λ c. search rules)
    (λ c. search rules)
    (λ c. search rules)
    (λ c. search rules)
    (λ c. search rules)
    (λ c. search rules)
    (λ c. search rules)
    (λ c. search rules)
    (λ c. search rules)
    (λ c. search rules)
    (λ c. search rules)
    (λ c. search rules)
    (λ c. search rules)
    (λ c. search (tag_is, rules))
    (λ c. search (tag_is, rules))
    (λ c. search (tag_is, rules))
    (λ c. search (tag_is, rules))
    (λ c. search (tag_is, rules))
    (λ c. search (tag_is, rules))
    (λ c. search (tag_is, rules))
    (λ c. search (tag_is, rules))
    (λ c. search (tag_is, rules))
    (λ c. search (tag_is, rules))
    (λ c. search (tag_is, rules))
    (λ c. search (tag_is, rules))
    (λ c. search (tag_is, rules)))
