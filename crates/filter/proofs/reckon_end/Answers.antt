-- `filter::reckon_end` meets its contract, bound by bound. Assumes nothing.
use Rattle.std.proofs.Common.{arith, ◌-◌}
use Rattle.print_sort.specs.Sorting.{items_by}
use Rattle.print_rows.proofs.PassLaws.{part-printable}
use Rattle.filter.proofs.BoundLaws.{reckoned_next}
use Rattle.filter.proofs.reckon_end.Goals as goal

pub end_before-requires-in-GreaterStart : goal.end_before-requires-in-GreaterStart
end_before-requires-in-GreaterStart c =
    (c.requires.printable.0, part-printable c.requires.printable.1 c.skip_starts-skipped.result (c.args.n - c.skip_starts-skipped.result) (omega (arith, c.skip_starts-skipped.ensures.most)))

pub returns-in-NextStart : goal.returns-in-NextStart
returns-in-NextStart c =
    reckoned_next c.args.bound c.args.start _ (λ text. items_by text c.args.words.now c.args.next c.args.n) c.in-NextStart.is c.end_before.ensures
