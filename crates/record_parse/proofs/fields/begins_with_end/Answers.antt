use Rattle.std.proofs.Common.{refl, rules}
use Rattle.record_parse.proofs.EndLaws.{comma_met}
use Rattle.record_parse.proofs.fields.begins_with_end.Goals as goal

pub returns-then-b-eq44 : goal.returns-then-b-eq44
returns-then-b-eq44 c = comma_met _ _ c.loop-i.invariant c.loop-i-test.true _ c.is_digit.ensures _ (search rules) (search rules) refl
