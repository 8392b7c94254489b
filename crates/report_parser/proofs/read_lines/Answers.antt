-- `report_parser::read_lines` meets its contract. Assumes nothing.
use Rattle.std.proofs.Common.{arith}
use Rattle.report_parser.proofs.TextLaws.{text-start, text_done}
use Rattle.report_parser.proofs.read_lines.Goals as goal

pub loop-at-init : goal.loop-at-init
loop-at-init c =
    (text-start _ _ _ _ _ _ _ c.requires.section_room.0 c.start-state.ensures.valid c.start-state.ensures.state, omega arith)

pub returns : goal.returns
returns c = text_done _ _ _ _ _ _ _ _ _ _ _ c.loop-at.invariant.0 (omega arith) c.finish_text.ensures
