use borrow.Author.Rules.{rules}
use lib.Seq.{length-take-le}
use Rattle.tag_table.proofs.DefaultLaws.{tag-written, tag-out}
use Rattle.tag_table.proofs.default.put_any.Statement.{statement}
use Rattle.tag_table.proofs.default.put_any.Tie as tie

pub put_any_spec : {M : Type 1} → statement M
put_any_spec =
    tie.close
    (tie.spec
    (λ c κs. search rules)
    (λ c. search rules)
    (λ c. search (length-take-le, rules))
    (λ c κs. search rules)
    (λ c. search rules)
    (λ c. search (tag-written, tag-out, rules)))
