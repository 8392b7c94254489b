-- `print_report::required_len` meets its contract: the output is surely long enough, or the lines are measured. Assumes nothing.
use Rattle.std.proofs.Common.{arith, ◌*◌, ◌^◌, ◌<◌, length}
use Rattle.tag_table.specs.Tags.{tag_of}
use Rattle.print_report.specs.Printing.{printed_from}
use Rattle.print_report.proofs.BoundLaws.{printed-most, fits_required}
use Rattle.print_report.proofs.AnswerLaws.{required_measured}
use Rattle.print_report.proofs.required_len.Goals as goal

pub returns-then-surely_fits-clause-required_length : goal.returns-then-surely_fits-clause-required_length
returns-then-surely_fits-clause-required_length c =
    let a = c.args in
    fits_required _ a.text.now a.words.now a.out.now (printed_from (tag_of a.tags) a.text.now a.index a.n a.words.now 0) a.index a.n c.surely_fits.result
    c.if-surely_fits.true c.surely_fits.ensures (printed-most _ c.requires.printable_table)
