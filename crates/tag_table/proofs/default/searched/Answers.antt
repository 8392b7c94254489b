use Rattle.tag_table.proofs.DefaultLaws.{named_found}
use Rattle.tag_table.proofs.default.searched.Goals as goal

pub returns : goal.returns
returns c = named_found _ _ c.find-colon.ensures.0 _ _ c.body_at-at.ensures.0 c.body_at-at.ensures.1 c.in_ok-kind.ensures
