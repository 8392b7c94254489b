-- `program_io::show_number`: a number fits the line. Assumes nothing.
use Rattle.std.proofs.Common.{rules}
use Rattle.program_io.proofs.RefusedLaws.{number-most}
use Rattle.program_io.proofs.show_number.Goals as goal

pub put_number-len-requires : goal.put_number-len-requires
put_number-len-requires c = search (number-most, rules)
