-- What the loop of `print_rows::emit_rows` keeps. Assumes nothing.
use Rattle.model.specs.TagTable.{tags_of}
use Rattle.print_rows.specs.Emit.{Emitted, numbered_item, pass_records}
use Rattle.print_rows.proofs.PassLaws.{printed}
use Rattle.print_rows.proofs.emit_rows.Given as goal

abbrev pub invariant-loop-i : goal.invariant-loop-i
invariant-loop-i l = Emitted l.write l.initial.out l.out l.at (printed (tags_of l.tags.table.now) (pass_records l.starts) (numbered_item l.text l.words l.numbers) l.i) l.end
