use borrow.Author.Rules.{rules}
use Rattle.model.proofs.TagTableLaws.{table-length}
use Rattle.tag_table.proofs.SlotLaws.{in_table, length-few, slot_tag}
use Rattle.tag_table.proofs.tag_at.Statement.{statement}
use Rattle.tag_table.proofs.tag_at.Tie as tie

pub tag_at_spec : {M : Type 1} → statement M
tag_at_spec =
    tie.close
    (tie.spec
    (λ c. search rules)
    (λ c. search rules)
    (λ c κs. search (in_table, rules))
    (λ c. search (table-length, length-few, rules))
    (λ c. search (table-length, length-few, rules))
    (λ c. search (table-length, length-few, rules))
    (λ c. search (table-length, length-few, rules))
    (λ c. search (slot_tag, rules)))
