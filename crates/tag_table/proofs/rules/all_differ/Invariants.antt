-- The invariant: no two tags are equal exactly if no two are among those from number k on.
use Rattle.std.proofs.Common.{◌≡◌}
use Rattle.model.specs.Tags.{all_kinds, differ}
use Rattle.model.specs.TagTable.{lent_tag}
use Rattle.tag_table.specs.Rules.{differ_from}
use Rattle.tag_table.proofs.rules.all_differ.Given as goal

abbrev pub invariant-loop-k : goal.invariant-loop-k
invariant-loop-k l = differ_from l.table l.k ≡ differ (lent_tag l.table) all_kinds
