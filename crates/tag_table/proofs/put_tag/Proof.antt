use borrow.Author.Rules.{rules}
use Rattle.tag_table.proofs.SlotLaws.{lent_well, lent_put, lent-over}
use Rattle.tag_table.proofs.DefaultLaws.{default-room, default_len, default-out}
use Rattle.tag_table.proofs.put_tag.Statement.{statement}
use Rattle.tag_table.proofs.put_tag.Tie as tie

pub put_tag_spec : {M : Type 1} → statement M
put_tag_spec =
    tie.close
    (tie.spec
    (λ c κs. search rules)
    (λ c κs. search (lent_well, rules))
    (λ c κs. search rules)
    (λ c. search rules)
    (λ c. search (lent_put, lent-over, rules))
    (λ c κs. search (default-room, rules))
    (λ c. search rules)
    (λ c. search (default_len, default-out, rules)))
