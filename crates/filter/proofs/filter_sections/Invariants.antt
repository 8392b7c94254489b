-- What the loop of `filter::filter_sections` keeps: the sections before a place are printed. Assumes nothing.
use Prim.Native.Nat.{◌-◌}
use lib.ListN.{take}
use Rattle.tag_table.specs.Tags.{tag_of}
use Rattle.line_num_pairs.specs.Pairs.{ranges_in}
use Rattle.print_report.proofs.LoopLaws.{Looping}
use Rattle.filter.specs.Filtered.{filtered_from}
use Rattle.filter.proofs.filter_sections.Given as goal

abbrev pub invariant-loop-lo : goal.invariant-loop-lo
invariant-loop-lo l =
    Looping (filtered_from (tag_of l.tags) l.bound (take l.count (ranges_in l.pairs)) l.text l.index l.n) l.write l.initial.words l.words l.initial.out l.out
    l.index l.n l.spare l.lo l.at

abbrev pub decreases-loop-lo : goal.decreases-loop-lo
decreases-loop-lo l = l.n - l.lo
