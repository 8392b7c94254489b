-- `section::start` meets its contract. Assumes nothing.
use Rattle.section.proofs.StateLaws.{start-valid, start_state}
use Rattle.section.proofs.start.Goals as goal

pub returns-clause-valid : goal.returns-clause-valid
returns-clause-valid c = λ text words index limit ρ. rw c.with_closed.ensures (start-valid ρ)

pub returns-clause-state : goal.returns-clause-state
returns-clause-state c = λ text words index. rw c.with_closed.ensures (start_state text words index)
