-- What the loop of `lab_quotas::mark_labs` keeps. Assumes nothing.
use Rattle.std.proofs.Common.{◌≡◌, length}
use Rattle.model.specs.TagTable.{tags_of}
use Rattle.model.specs.Gather.{entry_limit}
use Rattle.format.specs.Put.{over}
use Rattle.lab_quotas.specs.Labs.{marks_to}
use Rattle.lab_quotas.proofs.mark_labs.Given as goal

abbrev pub invariant-loop-i : goal.invariant-loop-i
invariant-loop-i l = l.marks ≡ over (marks_to (tags_of l.tags.table.now) (entry_limit (length l.initial.scratch)) l.bundle l.labs l.quotas l.i) l.initial.marks
