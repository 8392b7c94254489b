use Rattle.std.proofs.Common.{rules}
use Rattle.tag_table.proofs.KindLaws.{known_is}
use Rattle.tag_table.proofs.known.Goals as goal

pub returns : goal.returns
returns c = search (known_is, rules)
