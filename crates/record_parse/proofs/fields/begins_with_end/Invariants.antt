-- The invariant: i digits have come, and what is left decides.
use Rattle.std.proofs.Common.{◌≡◌, drop}
use Rattle.model.specs.Line.{begins_with_end}
use Rattle.record_parse.specs.Fields.{end_behind}
use Rattle.record_parse.proofs.fields.begins_with_end.Given as goal

abbrev pub invariant-loop-i : goal.invariant-loop-i
invariant-loop-i l = end_behind l.i (drop l.i l.rest) ≡ begins_with_end l.rest
