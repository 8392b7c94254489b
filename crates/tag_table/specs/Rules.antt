-- The rules of a table, from a tag on. Assumes nothing.
use Rattle.std.specs.Prelude.{ℕ, ◌-◌, Bool, true, not, ◌&&◌, List, [], ◌∷◌}
use Rattle.model.specs.Lists.{all, from}
use Rattle.model.specs.Bytes.{Bytes, same_bytes}
use Rattle.model.specs.TagTable.{tag_at, tag_fits}

-- the tags from number i on keep the rules on a single tag
unfoldable pub fits_from : Bytes → ℕ → Bool
fits_from table i = all (tag_fits table) (from i (13 - i))

-- tag k is none of those from number j on
unfoldable pub other_than : Bytes → ℕ → ℕ → Bool
other_than table k j = all (λ later. not (same_bytes (tag_at table later) (tag_at table k))) (from j (13 - j))

-- no two of these tags are equal
unfoldable pub differ_among : Bytes → List ℕ → Bool
differ_among table [] = true
differ_among table (k ∷ ks) = all (λ later. not (same_bytes (tag_at table later) (tag_at table k))) ks && differ_among table ks

unfoldable pub differ_from : Bytes → ℕ → Bool
differ_from table i = differ_among table (from i (13 - i))
