use borrow.Author.Rules.{rules}
use Rattle.record_parse.proofs.TagLaws.{known_body, test_body, source_body, end_body, other_body}
use Rattle.record_parse.proofs.read_body.Statement.{statement}
use Rattle.record_parse.proofs.read_body.Tie as tie

pub read_body_spec : {M : Type 1} → statement M
read_body_spec =
    tie.close
    (tie.spec
    (λ c. search rules)
    (λ c κs. search rules)
    (λ c. search rules)
    (λ c κs. search rules)
    (λ c. search rules)
    (λ c κs. search rules)
    (λ c. search rules)
    (λ c κs. search rules)
    (λ c. search rules)
    (λ c. search rules)
    (λ c. search rules)
    (λ c. search rules)
    (λ c κs. search rules)
    (λ c. search rules)
    (λ c. search rules)
    (λ c. search rules)
    (λ c. search rules)
    (λ c κs. search rules)
    (λ c. search rules)
    (λ c κs. search rules)
    (λ c κs. search rules)
    (λ c. search (known_body, rules))
    (λ c. search (known_body, rules))
    (λ c. search (known_body, rules))
    (λ c. search (known_body, rules))
    (λ c. search (test_body, rules))
    (λ c. search (source_body, rules))
    (λ c. search (end_body, rules))
    (λ c. other_body _ _ _ _ _ c.before.before.in_default.in_default-own.keys8 c.before.total_of.ensures c.read_total.ensures))
