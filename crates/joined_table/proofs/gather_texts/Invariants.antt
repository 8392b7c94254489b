-- What the loop of `joined_table::gather_texts` keeps: what is joined so far and the texts that are left give the whole. Assumes nothing.
use Rattle.std.proofs.Common.{◌-◌}
use Rattle.model.specs.TagTable.{tags_of}
use Rattle.joined_table.proofs.GatherLaws.{Left}
use Rattle.joined_table.proofs.gather_texts.Given as goal

abbrev pub invariant-loop-i : goal.invariant-loop-i
invariant-loop-i l = Left (tags_of l.tags.table.now) l.bundle l.body l.marks l.scratch l.mode l.limit l.count l.n l.i

abbrev pub decreases-loop-i : goal.decreases-loop-i
decreases-loop-i l = l.count - l.i
