use borrow.Author.Rules.{rules}
use Rattle.tag_table.proofs.SlotLaws.{lent_well, lent_length, lent-few}
use Rattle.tag_table.proofs.DefaultLaws.{default_len}
use Rattle.tag_table.proofs.tag_len.Statement.{statement}
use Rattle.tag_table.proofs.tag_len.Tie as tie

pub tag_len_spec : {M : Type 1} → statement M
tag_len_spec =
    tie.close
    (tie.spec
    (λ c κs. search rules)
    (λ c. search (default_len, rules))
    (λ c κs. search rules)
    (λ c κs. search (lent_well, rules))
    (λ c. search (lent_length, lent-few, rules)))
