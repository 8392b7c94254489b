-- `effect::step` meets its contract. Assumes nothing.
use Prim.Native.Nat.{◌≤◌}
use native.Mathlib.Omega.{arith}
use Rattle.report_parser.proofs.StepLaws.{found_functions, found_branches, found_lines, Added, function_entered, branch_entered, line_entered, within-line, text-within, added-item, adds_of, names, opens, ends, ignores, adds}
use borrow.Author.Rules.{rules}
use Rattle.report_parser.proofs.effect.step.Statement.{statement}
use Rattle.report_parser.proofs.effect.step.Tie as tie
use Rattle.report_parser.proofs.effect.step.Lts.{in_default-via-then-kind-lt4, in_default-via-else-kind-lt4+else-kind-lt6+then-kind-lt7, in_default-via-else-kind-lt4+else-kind-lt6+else-kind-lt7+else-kind-lt9+then-kind-lt10, in_default-via-else-kind-lt4+else-kind-lt6+else-kind-lt7+else-kind-lt9+else-kind-lt10+else-kind-lt12}
use Rattle.report_parser.proofs.effect.step.Lts.{then-kind-lt6, else-kind-lt6+else-kind-lt7+then-kind-lt9, else-kind-lt6+else-kind-lt7+else-kind-lt9+else-kind-lt10+then-kind-lt12}

abbrev start : tie.After-kind_number-kind → tie.Start
start y = y.before.before.before

-- the kinds that are left
entered : (j : tie.In_default) → j.before.before.kind_number-kind.result ≤ 12 → Added j.before.before.kind_number-kind.result
entered j most =
    elim j.in_default.branch [
      | in_default-via-then-kind-lt4 w ↦ function_entered (omega arith) (omega arith)
      | in_default-via-else-kind-lt4+else-kind-lt6+then-kind-lt7 w ↦ branch_entered (omega arith)
      | in_default-via-else-kind-lt4+else-kind-lt6+else-kind-lt7+else-kind-lt9+then-kind-lt10 w ↦ line_entered (omega arith)
      | in_default-via-else-kind-lt4+else-kind-lt6+else-kind-lt7+else-kind-lt9+else-kind-lt10+else-kind-lt12 w ↦ absurd (omega arith)
    ]

pub step_spec : {M : Type 1} → statement M
step_spec =
    tie.close
    (tie.spec
    (λ c κs. search rules)
    (λ c κs. search rules)
    (λ c κs. let s = start c.before.before in (omega arith, text-within s.requires.2 c.text_part.ensures))
    (λ c κs. search rules)
    (λ c. let s = start c.before.before.before.before in
    names c.before.before.before.before.kind_number-kind.ensures c.before.before.text_part.ensures c.before.move_part.ensures s.requires.1 c.before.before.before.in-0.is (λ i. c.on_test_name.ensures _ _ _ _ s.requires.0 i))
    (λ c κs. search rules)
    (λ c κs. let s = start c.before.before in (omega arith, text-within s.requires.2 c.text_part-in-1.ensures))
    (λ c κs. search rules)
    (λ c. search rules)
    (λ c. let s = start c.before.before.before.before.before.before.before in
    opens c.before.before.before.before.before.before.before.kind_number-kind.ensures c.before.before.before.before.before.text_part-in-1.ensures c.before.before.before.before.move_part-path.ensures s.requires.1 c.before.before.before.before.before.before.in-1.is (λ i. c.before.before.on_source_file.ensures _ s.requires.0 i))
    (λ c κs. search rules)
    (λ c. search rules)
    (λ c. ends c.before.before.before.before.before.kind_number-kind.ensures c.before.before.before.before.in-12.is c.before.before.on_end_of_record.ensures)
    (λ c κs. search rules)
    (λ c. search rules)
    (λ c. ignores c.before.before.before.before.before.before.before.kind_number-kind.ensures
    (elim c.before.before.before.before.in-4-to-5-1.branch [
      | then-kind-lt6 w ↦ found_functions (omega arith) (omega arith)
      | else-kind-lt6+else-kind-lt7+then-kind-lt9 w ↦ found_branches (omega arith) (omega arith)
      | else-kind-lt6+else-kind-lt7+else-kind-lt9+else-kind-lt10+then-kind-lt12 w ↦ found_lines (omega arith) (omega arith)
    ])
    (c.before.before.open_section.ensures _ (start c.before.before.before.before.before.before.before).requires.0))
    (λ c κs. let s = start c.before.before in
    (omega arith, within-line s.requires.2, added-item c.before.before.kind_number-kind.ensures (λ most. entered c most) s.requires.2))
    (λ c κs. let s = start c.before.before.before.before in
    (s.requires.0, c.before.item_row-row.ensures.inner _ s.requires.1, adds_of c.before.before.before.before.kind_number-kind.ensures c.before.item_row-row.ensures))
    (λ c. search rules)
    (λ c. adds c.before.before.before.before.before.before.before.kind_number-kind.ensures _
    (λ most. entered c.before.before.before.before.before most)
    c.before.before.before.before.item_row-row.ensures c.before.before.on_item.ensures))
