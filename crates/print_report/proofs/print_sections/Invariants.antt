-- What the loop of `print_report::print_sections` keeps: the sections before a place are printed. Assumes nothing.
use Prim.Native.Nat.{◌-◌}
use Rattle.tag_table.specs.Tags.{tag_of}
use Rattle.print_report.specs.Printing.{printed_from}
use Rattle.print_report.proofs.LoopLaws.{Looping}
use Rattle.print_report.proofs.print_sections.Given as goal

abbrev pub invariant-loop-lo : goal.invariant-loop-lo
invariant-loop-lo l = Looping (printed_from (tag_of l.tags) l.text l.index l.n) l.write l.initial.words l.words l.initial.out l.out l.index l.n l.spare l.lo l.at

abbrev pub decreases-loop-lo : goal.decreases-loop-lo
decreases-loop-lo l = l.n - l.lo
