-- The invariant: i bytes are passed, and what is left has the rest of the index.
use Rattle.std.proofs.Common.{◌≡◌, ◌+◌, length, drop}
use Rattle.model.specs.Bytes.{before}
use Rattle.scan.proofs.find.Given as goal

abbrev pub invariant-loop-i : goal.invariant-loop-i
invariant-loop-i l = l.i + length (before l.b (drop l.i l.s)) ≡ length (before l.b l.s)
