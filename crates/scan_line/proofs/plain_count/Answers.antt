use Rattle.std.proofs.Common.{rules}
use Rattle.scan_line.proofs.PlainLaws.{count-plain}
use Rattle.scan_line.proofs.plain_count.Goals as goal

pub returns : goal.returns
returns c = search (count-plain, rules)
