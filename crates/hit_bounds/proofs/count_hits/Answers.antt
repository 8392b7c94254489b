-- `hit_bounds::count_hits` meets its contract. Assumes nothing.
use Rattle.std.proofs.Common.{arith, []}
use Rattle.table_section.specs.Sections.{entry_at}
use Rattle.hit_bounds.proofs.ListLaws.{hits-none, hits-below, hits-step}
use Rattle.hit_bounds.proofs.count_hits.Goals as goal

pub loop-i-init : goal.loop-i-init
loop-i-init c text = hits-none _

pub add_hit-hits-requires : goal.add_hit-hits-requires
add_hit-hits-requires c = hits-below (entry_at [] c.args.words.now c.args.index) c.loop-i.i c.loop-i.hits (c.loop-i.invariant []) (omega arith)

pub loop-i-preserved : goal.loop-i-preserved
loop-i-preserved c text = hits-step text _ _ c.loop-i.i c.get.ensures (c.loop-i.invariant text) (c.add_hit-hits.ensures text)
