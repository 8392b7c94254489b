-- The invariant: what is left of both is the same exactly if the whole is.
use Rattle.std.proofs.Common.{◌≡◌, drop}
use Rattle.model.specs.Bytes.{same_bytes}
use Rattle.scan.proofs.equal.Given as goal

abbrev pub invariant-loop-i : goal.invariant-loop-i
invariant-loop-i l = same_bytes (drop l.i l.a) (drop l.i l.b) ≡ same_bytes l.a l.b
