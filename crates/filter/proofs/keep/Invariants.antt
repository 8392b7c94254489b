-- What the loop of `filter::keep` keeps. Assumes nothing.
use Rattle.std.proofs.Common.{◌+◌, ◌-◌, take}
use Rattle.model.specs.Bytes.{Bytes}
use Rattle.line_num_pairs.specs.Pairs.{ranges_in}
use Rattle.print_sort.specs.Sorting.{items_by}
use Rattle.filter.specs.Keeping.{Ahead}
use Rattle.filter.proofs.KeepLaws.{Keeping}
use Rattle.filter.proofs.keep.Given as goal

abbrev pub invariant-loop-i : goal.invariant-loop-i
invariant-loop-i l = record {
  rows : Keeping l.rule (take l.count (ranges_in l.pairs)) l.initial.words l.words l.numbers l.n l.i l.kept;
  ahead : (text : Bytes) → Ahead l.rule l.last (items_by text l.initial.words (l.numbers + l.i) (l.n - l.i));
}
