-- `lab_quotas::put_mark` meets its contract. Assumes nothing.
use Rattle.model.specs.Output.{output_after}
use Rattle.std.proofs.Common.{◌≡◌, length, arith}
use Rattle.lab_quotas.proofs.put_mark.Goals as goal

pub returns : goal.returns
unfolding output_after
returns c =
    let put = c.copy_from_slice.ensures.after in
    let long : length c.args.words ≡ 5 = omega arith in
    rw (put, long)
