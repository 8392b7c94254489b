-- `effect::text_part` meets its contract. Assumes nothing.
use Rattle.report_parser.proofs.RowLaws.{text_as, no_text}
use borrow.Author.Rules.{rules}
use Rattle.report_parser.proofs.effect.text_part.Statement.{statement}
use Rattle.report_parser.proofs.effect.text_part.Tie as tie

pub text_part_spec : {M : Type 1} → statement M
text_part_spec =
    tie.close
    (tie.spec
    (λ c. search rules)
    (λ c. search rules)
    (λ c. search rules)
    (λ c. search rules)
    (λ c. search (text_as, rules))
    (λ c. search (text_as, rules))
    (λ c. search (text_as, rules))
    (λ c. search (text_as, rules))
    (λ c. no_text c.before.args.«record» c.in_default.in_default-own.keys5))
