-- `section::on_end_of_record` meets its contract: all items are in main, and then the section is committed. Assumes
-- nothing.
use Rattle.std.proofs.Common.{refl, ◌∙◌, arith}
use Rattle.section.proofs.StateLaws.{next_as, held_as}
use Rattle.section.proofs.OtherLaws.{end_empty, all-sections, main_open, end_kept}
use Rattle.section.proofs.on_end_of_record.Goals as goal

pub returns-then-sizes-eq0 : goal.returns-then-sizes-eq0
returns-then-sizes-eq0 c = next_as c.with_closed.ensures (end_empty c.requires (omega arith))

pub commit_section-after-requires-clause-kept_sections : goal.commit_section-after-requires-clause-kept_sections
commit_section-after-requires-clause-kept_sections c =
    let p = c.kept_sizes.ensures in
    let ς = c.flush_all-items.ensures in
    (held_as p (all-sections c.requires ς), main_open c.requires ς p)

pub returns : goal.returns
returns c =
    next_as c.with_closed-2.ensures
    (end_kept c.requires c.flush_all-items.ensures _ c.commit_section-after.result (omega arith) refl refl (c.commit_section-after.auto.words ∙ c.flush_all-items.auto.words) c.kept_sizes.ensures
    c.slack.ensures c.commit_section-after.ensures.few c.commit_section-after.ensures.same)
