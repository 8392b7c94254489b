-- `print_rows::count_hits` meets its contract. Assumes nothing.
use Rattle.std.proofs.Common.{ap, ◌∙◌, arith, []}
use Rattle.table.specs.declared.Row.{Row}
use Rattle.table_item.specs.Items.{item_of}
use Rattle.print_rows.specs.Emit.{numbered_item, hit_one}
use Rattle.print_rows.proofs.PassLaws.{hits-start, hits_next, hits_fit}
use Rattle.print_rows.proofs.count_hits.Goals as goal

pub loop-i-init : goal.loop-i-init
loop-i-init c text = hits-start (numbered_item text c.args.words.now c.args.numbers)

pub overflow_add-hit : goal.overflow_add-hit
overflow_add-hit c =
    hits_fit (numbered_item [] c.args.words.now c.args.numbers) c.loop-i.i 1 c.args.n c.loop-i.hit c.hit_of-hit.result (c.loop-i.invariant []) c.hit_of-hit.ensures.1 (omega arith) c.requires.1

pub loop-i-preserved : goal.loop-i-preserved
loop-i-preserved c text =
    hits_next (numbered_item text c.args.words.now c.args.numbers) c.loop-i.i c.loop-i.hit c.hit_of-hit.result (c.loop-i.invariant text)
    (c.hit_of-hit.ensures.0 text ∙ ap (λ (row : Row). hit_one (item_of text row)) c.read_row.ensures)
