-- `print_report::too_short` meets its contract. Assumes nothing.
use Rattle.std.proofs.Common.{arith}
use Rattle.print_report.proofs.AnswerLaws.{short-is}
use Rattle.print_report.proofs.too_short.Goals as goal

pub returns : goal.returns
returns c = short-is _ (omega arith)
