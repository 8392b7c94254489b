-- What the loop of `line_num_pairs::join_from` keeps: the range so far gives what the whole range gives. Assumes nothing.
use Rattle.std.proofs.Common.{◌≤◌}
use Rattle.model.specs.Limits.{u32_max}
use Rattle.line_num_pairs.proofs.JoinLaws.{Joining}
use Rattle.line_num_pairs.proofs.join_from.Given as goal

abbrev pub invariant-loop-past : goal.invariant-loop-past
invariant-loop-past l = record { least : l.end ≤ u32_max; joining : Joining l.pairs l.used l.first l.initial.start l.initial.end l.start l.end l.past }
