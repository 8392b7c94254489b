-- `section_commit::position_of` meets its contract. Assumes nothing.
use Rattle.std.proofs.Common.{◌-◌, arith, sym, ◌∙◌}
use Rattle.compare.proofs.OrderLaws.{tells_equal}
use Rattle.section_commit.proofs.DeltaLaws.{position_cached, position_again, position_row}
use Rattle.section_commit.proofs.position_of.Goals as goal

pub returns-then-entry-eq-SECTION : goal.returns-then-entry-eq-SECTION
returns-then-entry-eq-SECTION c =
    position_cached c.args.j c.requires.kept_sections.0 c.requires.kept_sections.1 c.get-entry.ensures (omega arith)

pub returns-then-is_eq : goal.returns-then-is_eq
returns-then-is_eq c =
    let a = c.args in
    position_again a.text.now a.words.now a.index a.kept.main (a.j - 1) a.j c.get-entry.ensures c.get-before.ensures
    (sym c.if-is_eq.true ∙ tells_equal _ c.compare_sections.ensures c.is_eq.ensures) (c.requires.position_of (omega arith))

pub returns : goal.returns
returns c =
    let a = c.args in
    position_row a.text.now a.words.now a.index a.kept.main a.j c.get-entry.ensures c.equal_range-range.ensures.low
