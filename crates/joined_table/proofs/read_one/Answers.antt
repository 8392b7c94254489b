-- `joined_table::read_one` meets its contract. Assumes nothing.
use Rattle.std.proofs.Common.{rules}
use Rattle.joined_table.proofs.OneLaws.{read_one_lem}
use Rattle.joined_table.proofs.read_one.Goals as goal

pub returns : goal.returns
returns c = search (read_one_lem, rules)
