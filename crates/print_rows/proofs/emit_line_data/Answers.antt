-- `print_rows::emit_line_data` meets its contract. Assumes nothing.
use Rattle.std.proofs.Common.{rules, refl, true, []}
use Rattle.tag_table.specs.Tags.{tag_of}
use Rattle.record_display.specs.Lines.{counted}
use Rattle.print_rows.proofs.EmitLaws.{wrote-fits, wrote-line, wrote_none}
use Rattle.print_rows.proofs.emit_line_data.Goals as goal

pub returns-in_default : goal.returns-in_default
returns-in_default c = search (wrote_none, rules)

pub overflow_add-result : goal.overflow_add-result
overflow_add-result c =
    let a = c.args in search (wrote-fits (tag_of a.tags) true refl a.out.now a.at [] (counted a.line a.count), rules)

pub returns : goal.returns
returns c = let a = c.args in search (wrote-line (tag_of a.tags) true refl a.out.now a.at [] (counted a.line a.count), rules)
