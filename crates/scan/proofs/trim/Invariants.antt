-- The invariant: the bytes not yet passed, trimmed, are the whole trimmed.
use Rattle.std.proofs.Common.{◌≡◌, take}
use Rattle.model.specs.Line.{trimmed}
use Rattle.scan.proofs.trim.Given as goal

abbrev pub invariant-loop-i : goal.invariant-loop-i
invariant-loop-i l = trimmed (take l.i l.s) ≡ trimmed l.s
