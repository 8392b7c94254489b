-- What the loop of `line_num_pairs::is_well_formed` keeps. Assumes nothing.
use Rattle.std.proofs.Common.{◌≡◌, ◌-◌}
use Rattle.model.specs.Ranges.{well_formed_ranges}
use Rattle.line_num_pairs.specs.Pairs.{range_at, ranges_in}
use Rattle.line_num_pairs.proofs.WellLaws.{ascending_from}
use Rattle.line_num_pairs.proofs.is_well_formed.Given as goal

abbrev pub invariant-loop-k : goal.invariant-loop-k
invariant-loop-k l = well_formed_ranges (ranges_in l.pairs) l.used ≡ ascending_from (range_at l.pairs) l.least l.k (l.used - l.k)
