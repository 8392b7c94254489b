use Rattle.std.proofs.Common.{rules}
use Rattle.scan_digits.proofs.ShortLaws.{number_there}
use Rattle.scan_digits.proofs.short_number.Goals as goal

pub bounds-line-at : goal.bounds-line-at
bounds-line-at c = search (number_there, c.type_inv.part, rules)
