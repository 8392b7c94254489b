-- What the loop of `hit_bounds::count_hits` keeps. Assumes nothing.
use Rattle.std.proofs.Common.{◌≡◌}
use Rattle.model.specs.Bytes.{Bytes}
use Rattle.model_bounds.specs.Bounds.{hits_of}
use Rattle.table_section.specs.Sections.{entries_at}
use Rattle.hit_bounds.proofs.count_hits.Given as goal

abbrev pub invariant-loop-i : goal.invariant-loop-i
invariant-loop-i l = (text : Bytes) → l.hits ≡ hits_of (entries_at text l.words l.index l.i)
