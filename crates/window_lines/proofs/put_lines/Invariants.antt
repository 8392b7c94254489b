-- What the loop of `window_lines::put_lines` keeps. Assumes nothing.
use Rattle.std.proofs.Common.{length}
use Rattle.model.specs.TagTable.{tags_of}
use Rattle.window_lines.proofs.LineLaws.{Putting}
use Rattle.window_lines.proofs.put_lines.Given as goal

abbrev pub invariant-loop-i : goal.invariant-loop-i
invariant-loop-i l = Putting (tags_of l.tags.table.now) l.bundle l.width (length l.initial.scratch) l.initial.out l.out l.i l.at
