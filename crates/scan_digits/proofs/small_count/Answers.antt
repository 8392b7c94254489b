use Rattle.std.proofs.Common.{rules}
use Rattle.scan_digits.proofs.WordLaws.{count_small}
use Rattle.scan_digits.proofs.small_count.Goals as goal

pub returns : goal.returns
returns c = (search (count_small, rules), search (count_small, rules))
