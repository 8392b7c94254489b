-- `joined_table::gather_bundle` meets its contract. Assumes nothing.
use Rattle.std.proofs.Common.{rules}
use Rattle.joined_table.proofs.BundleLaws.{bundle_sized, bundle-few, bundle-inside, bundle-gathered, bundle-refused}
use Rattle.joined_table.proofs.gather_bundle.Goals as goal

pub body_at-body-requires : goal.body_at-body-requires
body_at-body-requires c = (search (bundle_sized, rules), search (bundle-few, rules))

pub gather_marked-requires : goal.gather_marked-requires
gather_marked-requires c = record { texts_inside = search (bundle-inside, rules) }

pub returns-then-is_well_formed : goal.returns-then-is_well_formed
returns-then-is_well_formed c = search (bundle-gathered, rules)

pub returns : goal.returns
returns c = search (bundle-refused, rules)
