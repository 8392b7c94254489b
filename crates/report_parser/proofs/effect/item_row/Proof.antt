-- `effect::item_row` meets its contract. Assumes nothing.
use Rattle.report_parser.proofs.RowLaws.{within_as, row_as, start_of, calls_of_lem, branch_of, line_of, other_of}
use borrow.Author.Rules.{rules}
use Rattle.report_parser.proofs.effect.item_row.Statement.{statement}
use Rattle.report_parser.proofs.effect.item_row.Tie as tie

pub item_row_spec : {M : Type 1} → statement M
item_row_spec =
    tie.close
    (tie.spec
    (λ c. search rules)
    (λ c κs. (c.before.requires.0, (within_as c.in-FunctionName.is c.before.requires.1).text))
    (λ c κs. search rules)
    (λ c. let e = c.before.before.in-FunctionName.is in
    row_as e (start_of c.before.move_part.ensures (within_as e c.before.before.before.requires.1) c.start_row.ensures))
    (λ c. search rules)
    (λ c κs. (c.before.requires.0, (within_as c.in-FunctionData.is c.before.requires.1).text))
    (λ c κs. search rules)
    (λ c. let e = c.before.before.in-FunctionData.is in
    row_as e (calls_of_lem c.before.move_part-in-FunctionData.ensures (within_as e c.before.before.before.requires.1) c.calls_row.ensures))
    (λ c. search rules)
    (λ c κs. search rules)
    (λ c. row_as c.before.in-BranchData.is (branch_of c.branch_row.ensures))
    (λ c. search rules)
    (λ c κs. (c.before.requires.0, (within_as c.in-LineData.is c.before.requires.1).checksum))
    (λ c κs. search rules)
    (λ c. let e = c.before.before.in-LineData.is in
    row_as e (line_of c.before.move_checksum.ensures (within_as e c.before.before.before.requires.1) c.line_row.ensures))
    (λ c κs. search rules)
    (λ c. other_of _ c.before.in_default.in_default-own.keys5 c.before.before.requires.2))
