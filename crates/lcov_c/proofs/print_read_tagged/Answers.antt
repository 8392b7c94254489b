-- `lcov_c::print_read_tagged` meets its contract. Assumes nothing.
use Rattle.std.proofs.Common.{◌≡◌, rules, Err}
use Rattle.model.specs.Answer.{unplaced}
use Rattle.lcov.proofs.CallLaws.{tags_refused}
use Rattle.lcov_c.proofs.print_read_tagged.Goals as goal

pub returns-in_err-tags : goal.returns-in_err-tags
returns-in_err-tags c =
    let e : c.from_residual.result ≡ Err (unplaced c.in_err-tags.field-0.0) = search rules in
    tags_refused _ _ c.load.ensures _ _ _ _ c.in_err-tags.was e
