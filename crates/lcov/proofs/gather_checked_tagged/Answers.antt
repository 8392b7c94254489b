-- `lcov::gather_checked_tagged` meets its contract. Assumes nothing.
use Rattle.std.proofs.Common.{◌≡◌, rules, Err}
use Rattle.model.specs.Answer.{unplaced}
use Rattle.lcov.proofs.CallLaws.{tags_refused, tags_called}
use Rattle.lcov.proofs.Demand.{tagged_demand}
use Rattle.lcov.proofs.gather_checked_tagged.Goals as goal

pub returns-in_err-tags-clause-call : goal.returns-in_err-tags-clause-call
returns-in_err-tags-clause-call c =
    let e : c.from_residual.result ≡ Err (unplaced c.in_err-tags.field-0.0) = search rules in
    tags_refused _ _ c.load.ensures _ _ _ _ c.in_err-tags.was e

pub returns-in_err-tags-clause-demand : goal.returns-in_err-tags-clause-demand
returns-in_err-tags-clause-demand c =
    let e : c.from_residual.result ≡ Err (unplaced c.in_err-tags.field-0.0) = search rules in
    (tagged_demand _ _ _ _ _ _ (tags_refused _ _ c.load.ensures _ _ _ _ c.in_err-tags.was e)).1

pub returns-clause-demand : goal.returns-clause-demand
returns-clause-demand c = (tagged_demand _ _ _ _ _ _ (tags_called _ _ c.load.ensures _ _ _ _ _ c.in_ok-tags.was c.gather.ensures)).1
