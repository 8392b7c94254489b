-- `bundle_revisions::text_count` meets its contract. Assumes nothing.
use Rattle.std.proofs.Common.{rules}
use Rattle.bundle_revisions.proofs.RevisionLaws.{sizes_room, counted}
use Rattle.bundle_revisions.proofs.text_count.Goals as goal

pub u32_at-requires : goal.u32_at-requires
u32_at-requires c = search (sizes_room, rules)

pub returns : goal.returns
returns c = search (counted, rules)
