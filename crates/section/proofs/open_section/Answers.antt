-- `section::open_section` meets its contract. Assumes nothing.
use Rattle.std.proofs.Common.{arith}
use Rattle.section.proofs.StateLaws.{next_as}
use Rattle.section.proofs.OtherLaws.{open_full, open_next}
use Rattle.section.proofs.open_section.Goals as goal

pub returns-then-limit-state : goal.returns-then-limit-state
returns-then-limit-state c = λ text ζ. open_full ζ (omega arith)

pub returns : goal.returns
returns c = λ text ζ. next_as c.with_open.ensures (open_next ζ c.reserve_row-used.ensures (omega arith) c.reserve_row-used.auto.words)
