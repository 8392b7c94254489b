-- `lcov::quotas::gather_let_in` meets its contract. Assumes nothing.
use Rattle.std.proofs.Common.{rules}
use Rattle.lcov.proofs.QuotaLaws.{quotas_printed}
use Rattle.lcov.proofs.quotas.gather_let_in.Goals as goal

pub returns : goal.returns
returns c = quotas_printed _ _ _ _ _ _ _ _ _ c.gather_labs-got.ensures (search rules) c.args.out.now _ _ c.print_joined.ensures
