use Rattle.std.proofs.Common.{rules, refl}
use Rattle.tag_table.proofs.LoadLaws.{load_all}
use Rattle.tag_table.proofs.load.Goals as goal

pub returns : goal.returns
returns c = record { lent = refl; is = (load_all _ _ c.is_well_formed.ensures (search rules) _ c.all_differ.ensures (search rules)).1 }
