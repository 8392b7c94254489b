-- `filter::print_kept` meets its contract. Assumes nothing.
use Rattle.std.proofs.Common.{arith}
use Rattle.tag_table.specs.Tags.{tag_of}
use Rattle.filter.proofs.KeptLaws.{Begun, kept_done}
use Rattle.filter.proofs.print_kept.Goals as goal

pub returns : goal.returns
returns c =
    let a = c.args in
    let β : Begun (tag_of a.tags) a.write a.text.now a.words.now a.out.now a.header a.numbers a.at a.kept
    = record { room = c.requires.room_for; few = omega arith; place = omega arith } in
    kept_done β c.emit_head-start.ensures c.print_numbered-functions.ensures c.emit_group-branches.ensures c.emit_group-lines.ensures c.emit_end.ensures
