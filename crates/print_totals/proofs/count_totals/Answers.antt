-- `print_totals::count_totals` meets its contract. Assumes nothing.
use Rattle.std.proofs.Common.{arith}
use Rattle.print_totals.proofs.LineLaws.{table-numbered}
use Rattle.print_totals.proofs.SumLaws.{summing_start, sum-small, summing_next, summing_done}
use Rattle.print_totals.proofs.count_totals.Goals as goal

pub loop-lo-init : goal.loop-lo-init
loop-lo-init c = summing_start c.requires.1 c.requires.0.1

pub count_section-totals-requires : goal.count_section-totals-requires
count_section-totals-requires c = (table-numbered c.requires.0.1, c.requires.1, c.find_kind_ranges-runs.ensures)

pub add_totals-sums-requires : goal.add_totals-sums-requires
add_totals-sums-requires c = sum-small c.requires.1 c.loop-lo.invariant (omega arith) c.find_kind_ranges-runs.ensures c.count_section-totals.ensures

pub loop-lo-preserved : goal.loop-lo-preserved
loop-lo-preserved c = summing_next c.requires.1 c.loop-lo.invariant (omega arith) c.find_kind_ranges-runs.ensures c.count_section-totals.ensures c.requires.0.1 c.add_totals-sums.ensures

pub returns : goal.returns
returns c = λ text τ. summing_done c.requires.1 c.loop-lo.invariant (omega arith) text τ
