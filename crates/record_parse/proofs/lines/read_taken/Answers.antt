use Rattle.std.proofs.Common.{◌∙◌, ap, rules}
use Rattle.std.specs.Prelude.{Some}
use Rattle.scan.specs.declared.Number.{Number}
use Rattle.record_parse.proofs.LineLaws.{NotLast, taken_short, taken_up}
use Rattle.record_parse.proofs.lines.read_taken.Goals as goal

pub returns-in-Some-Last : goal.returns-in-Some-Last
returns-in-Some-Last c =
    let last = c.in-Some-Last in
    let is = rw last.is at last.field-0-is in
    taken_short _ _ _ _ c.args.short _ _ c.requires (last.is ∙ ap (λ (n : Number). Some n) is)

pub returns-in_default-fourth : goal.returns-in_default-fourth
returns-in_default-fourth c =
    let other : NotLast c.long_field-fourth.result = search rules in
    let up = taken_up c.args.line c.args.block c.args.branch c.args.rest.now in
    search (up, other, rules)
