-- `lab_quotas::rank` meets its contract. Assumes nothing.
use Rattle.std.proofs.Common.{◌≡◌, rules, take, count_by, ◌∙◌, ◌==◌, arith, length-take, ℕ}
use Rattle.std.proofs.lemmas.List.Sums.{count_by-le-length}
use Rattle.lab_quotas.proofs.LabLaws.{rank_counted}
use Rattle.lab_quotas.proofs.rank.Goals as goal

pub returns : goal.returns
returns c =
    let e : c.count.result ≡ count_by (λ x. c.args.lab == x) (take c.args.i c.args.labs.now) = search rules in
    (e ∙ rank_counted c.args.lab c.args.labs.now c.args.i (omega arith), omega (arith, e, count_by-le-length (λ x. c.args.lab == x) (take c.args.i c.args.labs.now), length-take {A = ℕ}))
