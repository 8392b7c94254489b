-- The invariant: the table is well formed exactly if the tags from number k on fit.
use Rattle.std.proofs.Common.{◌≡◌}
use Rattle.model.specs.TagTable.{well_formed_tags}
use Rattle.tag_table.specs.Rules.{fits_from}
use Rattle.tag_table.proofs.rules.is_well_formed.Given as goal

abbrev pub invariant-loop-k : goal.invariant-loop-k
invariant-loop-k l = fits_from l.table l.k ≡ well_formed_tags l.table
