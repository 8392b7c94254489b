-- `section::on_test_name` meets its contract. Assumes nothing.
use Rattle.section.proofs.StateLaws.{next_as}
use Rattle.section.proofs.OtherLaws.{test-inside, test-outside}
use Rattle.section.proofs.on_test_name.Goals as goal

pub returns-then-inside : goal.returns-then-inside
returns-then-inside c = λ text words index limit ζ i. test-inside c.args.state _ c.if-inside.true

pub returns : goal.returns
returns c = λ text words index limit ζ i. next_as c.with_closed.ensures (test-outside c.args.state ζ i c.if-inside.false)
