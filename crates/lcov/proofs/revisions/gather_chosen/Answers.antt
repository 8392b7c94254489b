-- `lcov::revisions::gather_chosen` meets its contract. Assumes nothing.
use Rattle.std.proofs.Common.{rules}
use Rattle.tag_table.specs.Tags.{tag_of}
use Rattle.lcov.proofs.CallLaws.{gathered_called, revisions_means}
use Rattle.model.specs.Printing.{print_report}
use Rattle.lcov.proofs.revisions.gather_chosen.Goals as goal

pub returns : goal.returns
returns c =
    gathered_called _ _ _ _ _ c.gather_highest-got.ensures (search rules) (print_report (tag_of c.args.tags)) c.args.out.now _ _ _
    (revisions_means (tag_of c.args.tags) _ _ c.args.out.now) c.print_joined.ensures
