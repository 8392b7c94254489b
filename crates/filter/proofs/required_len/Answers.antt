-- `filter::required_len` meets its contract: the output is surely long enough, or the lines are measured. Assumes nothing.
use Rattle.tag_table.specs.Tags.{tag_of}
use lib.ListN.{take}
use Rattle.line_num_pairs.specs.Pairs.{ranges_in}
use Rattle.filter.specs.Filtered.{filtered_from}
use Rattle.filter.proofs.ThinLaws.{filtered-most}
use Rattle.print_report.proofs.BoundLaws.{fits_required}
use Rattle.filter.proofs.required_len.Goals as goal

pub returns-then-surely_fits-clause-required_length : goal.returns-then-surely_fits-clause-required_length
returns-then-surely_fits-clause-required_length c =
    let a = c.args in
    let ranges = take a.count (ranges_in a.pairs.now) in
    fits_required _ a.text.now a.words.now a.out.now (filtered_from (tag_of a.tags) a.bound ranges a.text.now a.index a.n a.words.now 0) a.index a.n
    c.surely_fits.result c.if-surely_fits.true c.surely_fits.ensures (filtered-most _ a.bound ranges c.requires.0)
