-- `print_report::print_functions` meets its contract: sorted to be written, in the index's order to be measured. Assumes nothing.
use Rattle.std.proofs.Common.{rules}
use Rattle.print_report.proofs.TableLaws.{order-printable}
use Rattle.print_report.proofs.FunctionLaws.{index_done}
use Rattle.print_report.proofs.print_functions.Goals as goal

pub print_numbered-requires-clause-printable : goal.print_numbered-requires-clause-printable
print_numbered-requires-clause-printable c =
    (order-printable c.requires.function_rows c.sort_functions.ensures c.sort_functions.auto.words, c.requires.function_rows.few)

pub returns-clause-emitted : goal.returns-clause-emitted
returns-clause-emitted c =
    let a = c.args in index_done _ a.text.now a.words.now a.index a.from a.n c.if-write.false c.print_numbered-2.ensures
