-- `totals::answer` meets its contract. Assumes nothing.
use Rattle.model.specs.Tags.{default_tag}
use Rattle.model_totals.specs.Totals.{totals, totals_program}
use Rattle.program_io.proofs.AnswerLaws.{too_long, short_enough}
use Rattle.totals.proofs.answer.Goals as goal

pub returns-then-is_too_long : goal.returns-then-is_too_long
unfolding totals_program
returns-then-is_too_long c =
    too_long (totals default_tag) _ _ _ _ _ c.if-is_too_long.true c.from.ensures c.put_refusal.ensures.0 c.put_refusal.ensures.1

pub returns : goal.returns
unfolding totals_program
returns c = short_enough (totals default_tag) _ c.args.out.now _ _ c.if-is_too_long.false c.totals.ensures
