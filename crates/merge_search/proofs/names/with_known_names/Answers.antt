-- `names::with_known_names` meets its contract. Assumes nothing.
use Rattle.std.proofs.Common.{arith}
use Rattle.merge_search.proofs.NameLaws.{same-entry-joined}
use Rattle.merge_search.proofs.names.with_known_names.Goals as goal

pub returns-then-same_names : goal.returns-then-same_names
returns-then-same_names c text σ w = same-entry-joined c.with_section.ensures (c.same_names.ensures cc) (omega arith) σ w
