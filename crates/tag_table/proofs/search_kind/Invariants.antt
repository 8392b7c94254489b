-- The invariant: the tags before number k are others.
use Rattle.tag_table.proofs.KindLaws.{NoneBefore}
use Rattle.tag_table.proofs.search_kind.Given as goal

abbrev pub invariant-loop-k : goal.invariant-loop-k
invariant-loop-k l = NoneBefore l.tags l.s l.k
