-- `print_totals::count_section` meets its contract. Assumes nothing.
use Rattle.std.proofs.Common.{rules}
use Rattle.print_totals.proofs.CountLaws.{numbered-part}
use Rattle.print_totals.proofs.count_section.Goals as goal

pub count_range-requires : goal.count_range-requires
count_range-requires c = search (numbered-part, rules)

pub count_range-requires-2 : goal.count_range-requires-2
count_range-requires-2 c = search (numbered-part, rules)

pub count_range-requires-3 : goal.count_range-requires-3
count_range-requires-3 c = search (numbered-part, rules)

pub returns : goal.returns
returns c = λ text. record { functions = c.count_range.ensures text; branches = c.count_range-2.ensures text; lines = c.count_range-3.ensures text }
