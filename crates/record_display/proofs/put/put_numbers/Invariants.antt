-- The invariant: i fields are written, and the rest is left.
use Rattle.record_display.specs.Fields.{number_texts}
use Rattle.record_display.proofs.FieldLaws.{Putting}
use Rattle.record_display.proofs.put.put_numbers.Given as goal

abbrev pub invariant-loop-i : goal.invariant-loop-i
invariant-loop-i l = Putting (number_texts l.numbers l.count) l.initial.out l.out l.at l.sep l.i
