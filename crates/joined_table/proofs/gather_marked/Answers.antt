-- `joined_table::gather_marked` meets its contract. Assumes nothing.
use Rattle.std.proofs.Common.{rules}
use Rattle.joined_table.proofs.BundleLaws.{marked-gathered}
use Rattle.joined_table.proofs.gather_marked.Goals as goal

pub returns : goal.returns
returns c = search (marked-gathered, rules)
