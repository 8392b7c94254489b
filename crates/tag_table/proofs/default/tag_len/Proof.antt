use borrow.Author.Rules.{rules}
use Rattle.tag_table.proofs.DefaultLaws.{tag_size}
use Rattle.tag_table.proofs.default.tag_len.Statement.{statement}
use Rattle.tag_table.proofs.default.tag_len.Tie as tie

pub tag_len_spec : {M : Type 1} → statement M
tag_len_spec =
    tie.close
    (tie.spec
    (λ c κs. search rules)
    (λ c. search (tag_size, rules)))
