-- `lcov::page::write_page` meets its contract. Assumes nothing.
use Rattle.std.proofs.Common.{rules}
use Rattle.tag_table.specs.Tags.{tag_of}
use Rattle.lcov.proofs.CallLaws.{gathered_called, totals_means}
use Rattle.model_totals.specs.Totals.{page}
use Rattle.lcov.proofs.page.write_page.Goals as goal

pub returns : goal.returns
returns c =
    gathered_called _ _ _ _ _ c.gather_bundle-got.ensures (search rules) page c.args.out.now _ _ _ (totals_means (tag_of c.args.tags) _ _ c.args.out.now)
    c.print_page.ensures
