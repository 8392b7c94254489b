-- `totals::totals` meets its contract: a report and a refusal both are at the front of the output. Assumes nothing.
use Rattle.model.specs.Tags.{default_tag}
use Rattle.model_totals.specs.Totals.{totals}
use Rattle.program_io.proofs.AnswerLaws.{written-front, refused-front}
use Rattle.totals.proofs.totals.Goals as goal

pub returns-in-Ok : goal.returns-in-Ok
returns-in-Ok c =
    written-front (totals default_tag) c.args.bundle.now c.args.out.now _ c.requires.0 c.requires.1 _ _ _ c.totals.ensures c.in-Ok.is

pub returns-in-Err : goal.returns-in-Err
returns-in-Err c =
    refused-front (totals default_tag) c.args.bundle.now c.args.out.now _ c.requires.0 c.requires.1 _ _ _ _ _ c.totals.ensures c.in-Err.is c.put_refusal.ensures.0 c.put_refusal.ensures.1
