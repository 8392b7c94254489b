-- `effect::move_checksum` meets its contract. Assumes nothing.
use Rattle.report_parser.proofs.RowLaws.{given-within, given-moved}
use borrow.Author.Rules.{rules}
use Rattle.report_parser.proofs.effect.move_checksum.Statement.{statement}
use Rattle.report_parser.proofs.effect.move_checksum.Tie as tie

pub move_checksum_spec : {M : Type 1} → statement M
move_checksum_spec =
    tie.close
    (tie.spec
    (λ c. search rules)
    (λ c κs. (c.before.requires.0, given-within _ c.in-Some.is c.before.requires.1))
    (λ c. search rules)
    (λ c. given-moved c.before.before.args.at _ c.before.in-Some.is c.move_part.ensures)
    (λ c. search rules))
