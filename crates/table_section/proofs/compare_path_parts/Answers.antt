-- `table_section::compare_path_parts` meets its contract. Assumes nothing.
use Rattle.std.proofs.Common.{arith}
use Rattle.table_section.proofs.RangeLaws.{same-path}
use Rattle.table_section.proofs.compare_path_parts.Goals as goal

pub returns-then-n-m : goal.returns-then-n-m
returns-then-n-m c = same-path _ c.args.a c.args.n _ _ (omega arith) (omega arith)
