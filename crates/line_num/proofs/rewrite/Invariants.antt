-- `line_num::rewrite`: the slice and the pass are those after so many steps. Assumes nothing.
use Rattle.std.proofs.Common.{◌≡◌, length}
use Rattle.line_num.specs.Steps.{after}
use Rattle.line_num.proofs.rewrite.Given as goal

abbrev pub invariant-loop-t : goal.invariant-loop-t
invariant-loop-t l = record {
  long : length l.list ≡ length l.initial.list;
  list : l.list ≡ (after l.plan l.initial.list l.t).0;
  pass : l.found ≡ (after l.plan l.initial.list l.t).1;
}
