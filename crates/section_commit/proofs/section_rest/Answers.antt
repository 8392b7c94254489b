-- `section_commit::section_rest` meets its contract: the entry that is counted is compared. Assumes nothing.
use Rattle.std.proofs.Common.{arith}
use Rattle.table_section.specs.Sections.{rows_from}
use Rattle.section_commit.proofs.DeltaLaws.{section_itself}
use Rattle.section_commit.proofs.section_rest.Goals as goal

pub returns-then-first-ne-SECTION : goal.returns-then-first-ne-SECTION
returns-then-first-ne-SECTION c =
    let a = c.args in
    (omega (arith, c.requires.1), section_itself a.text.now (rows_from a.words.now a.index a.kept.main) a.j)

pub returns-then-kept-j : goal.returns-then-kept-j
returns-then-kept-j c =
    let a = c.args in
    (omega (arith, c.requires.1), section_itself a.text.now (rows_from a.words.now a.index a.kept.main) a.j)

pub returns : goal.returns
returns c =
    let a = c.args in
    (omega (arith, c.requires.1), section_itself a.text.now (rows_from a.words.now a.index a.kept.main) a.j)
