-- `filter::skip_starts` meets its contract. Assumes nothing.
use Rattle.std.proofs.Common.{arith, ◌-◌}
use Rattle.print_rows.proofs.PassLaws.{part-printable}
use Rattle.filter.proofs.ItemLaws.{first-inside, first_fits}
use Rattle.filter.proofs.BoundLaws.{skip_start, skip_next, skip_found, skip_done}
use Rattle.filter.proofs.skip_starts.Goals as goal

pub loop-i-init : goal.loop-i-init
loop-i-init c = skip_start c.args.words.now c.args.next c.args.n c.args.start

pub read_row-requires : goal.read_row-requires
read_row-requires c = first-inside (part-printable c.requires.1 c.loop-i.i (c.args.n - c.loop-i.i) (omega arith)) (omega arith)

pub start_line-requires : goal.start_line-requires
start_line-requires c =
    (c.requires.0, first_fits (part-printable c.requires.1 c.loop-i.i (c.args.n - c.loop-i.i) (omega arith)) (omega arith) c.read_row.result c.read_row.ensures)

pub returns-then-start-start_line-clause-first : goal.returns-then-start-start_line-clause-first
returns-then-start-start_line-clause-first c text =
    skip_found c.args.words.now c.args.next c.args.n c.args.start text c.loop-i.i (omega arith) (c.loop-i.invariant text) c.read_row.result c.read_row.ensures
    c.start_line.result (c.start_line.ensures text) (omega arith)

pub loop-i-preserved : goal.loop-i-preserved
loop-i-preserved c text =
    skip_next c.args.words.now c.args.next c.args.n c.args.start text c.loop-i.i (omega arith) (c.loop-i.invariant text) c.read_row.result c.read_row.ensures
    c.start_line.result (c.start_line.ensures text) (omega arith)

pub returns-clause-first : goal.returns-clause-first
returns-clause-first c text = skip_done c.args.words.now c.args.next c.args.n c.args.start text c.loop-i.i (omega arith) (c.loop-i.invariant text)
