-- `program_io::show_range`: two numbers fit the line. Assumes nothing.
use Rattle.std.proofs.Common.{rules}
use Rattle.program_io.proofs.RefusedLaws.{pair-most}
use Rattle.program_io.proofs.show_range.Goals as goal

pub put_pair-len-requires : goal.put_pair-len-requires
put_pair-len-requires c = search (pair-most, rules)
