-- `gather::answer` meets its contract. Assumes nothing.
use Rattle.model.specs.declared.Mode.TheVariants.{Checked}
use Rattle.model.specs.Tags.{default_tag}
use Rattle.model.specs.Gather.{gather, gather_program}
use Rattle.program_io.proofs.AnswerLaws.{too_long, short_enough}
use Rattle.gather.proofs.answer.Goals as goal

pub returns-then-is_too_long : goal.returns-then-is_too_long
unfolding gather_program
returns-then-is_too_long c =
    too_long (gather default_tag Checked) _ _ _ _ _ c.if-is_too_long.true c.from.ensures c.put_refusal.ensures.0 c.put_refusal.ensures.1

pub returns : goal.returns
unfolding gather_program
returns c = short_enough (gather default_tag Checked) _ c.args.out.now _ _ c.if-is_too_long.false c.gather.ensures
