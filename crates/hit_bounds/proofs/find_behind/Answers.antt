-- `hit_bounds::find_behind` meets its contract. Assumes nothing.
use Rattle.hit_bounds.proofs.AnswerLaws.{behind-refused}
use Rattle.hit_bounds.proofs.find_behind.Goals as goal

pub returns-in-Err : goal.returns-in-Err
returns-in-Err c = behind-refused _ _ _ _ _ _ c.read_rest.ensures.read _ _ c.in-Err.is c.in_text.ensures
