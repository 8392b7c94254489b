-- A table of tags that a caller lends, in 221 bytes: "thirteen length bytes first, then thirteen slots of 16 bytes, in the order of
-- `RecordKind`". Assumes nothing.
use Rattle.std.specs.Prelude.{ℕ, zero, suc, ◌+◌, ◌*◌, ◌-◌, Bool, true, ◌&&◌, [], ◌∷◌, ◌++◌, map, leb, eqb, length, get_or, take, drop, if◌then◌else◌}
use Rattle.model.specs.declared.Fault.TheVariants.{MalformedTags, EqualTags}
use Rattle.model.specs.declared.Kind.{Kind}
use Rattle.model.specs.declared.Kind.TheVariants.{
  TestName,
  SourceFile,
  FunctionName,
  FunctionData,
  FunctionsFound,
  FunctionsHit,
  BranchData,
  BranchesFound,
  BranchesHit,
  LineData,
  LinesFound,
  LinesHit,
  EndOfRecord,
}
use Rattle.model.specs.Lists.{all, from, concat_map}
use Rattle.model.specs.Bytes.{Bytes}
use Rattle.model.specs.Answer.{Answer, accepted, ◌>>=◌, refuse}
use Rattle.model.specs.Tags.{all_kinds, default_tag, tag_byte, differ}

-- the place of a kind in the order of `RecordKind`
abbrev pub place_of : Kind → ℕ
place_of TestName = 0
place_of SourceFile = 1
place_of FunctionName = 2
place_of FunctionData = 3
place_of FunctionsFound = 4
place_of FunctionsHit = 5
place_of BranchData = 6
place_of BranchesFound = 7
place_of BranchesHit = 8
place_of LineData = 9
place_of LinesFound = 10
place_of LinesHit = 11
place_of EndOfRecord = 12

-- the length of tag k, and its slot
unfoldable pub tag_length : Bytes → ℕ → ℕ
tag_length table k = get_or table k 0

unfoldable pub slot_at : Bytes → ℕ → Bytes
slot_at table k = take 16 (drop (13 + 16 * k) table)

-- tag k: the first bytes of its slot
unfoldable pub tag_at : Bytes → ℕ → Bytes
tag_at table k = take (tag_length table k) (slot_at table k)

abbrev pub lent_tag : Bytes → Kind → Bytes
lent_tag table kind = tag_at table (place_of kind)

-- "each length is 1 to 16, the slot's bytes past it are 0, no tag has byte 10, byte 13 or ':' in it"
unfoldable pub tag_fits : Bytes → ℕ → Bool
tag_fits table k =
    leb 1 (tag_length table k)
    && leb (tag_length table k) 16
    && all (λ b. eqb b 0) (drop (tag_length table k) (slot_at table k))
    && all tag_byte (tag_at table k)

unfoldable pub well_formed_tags : Bytes → Bool
well_formed_tags table = eqb (length table) 221 && all (tag_fits table) (from 0 13)

-- "a slice that is not 221 long or breaks a rule on a single tag with 21, and two equal tags with 22, in that order"
unfoldable pub load_tags : Bytes → Answer (Kind → Bytes)
load_tags table =
    if well_formed_tags table
    then (if differ (lent_tag table) all_kinds then accepted (lent_tag table) else refuse EqualTags)
    else refuse MalformedTags

module _ {A : Type 0} where
  -- a call under the tags of a table, which is tried "before anything else is looked at"
  abbrev pub tagged : Bytes → ((Kind → Bytes) → Answer A) → Answer A
  tagged table call = load_tags table >>= call

-- ---- the table that holds these tags, each of at most 16 bytes

unfoldable pub zeros : ℕ → Bytes
zeros zero = []
zeros (suc n) = 0 ∷ zeros n

unfoldable pub table_of : (Kind → Bytes) → Bytes
table_of tag = map (λ kind. length (tag kind)) all_kinds ++ concat_map (λ kind. tag kind ++ zeros (16 - length (tag kind))) all_kinds

-- ---- inside the library no bytes stand for the default, and other bytes are a table that loads

unfoldable pub tags_of : Bytes → Kind → Bytes
tags_of [] = default_tag
tags_of (b ∷ bs) = lent_tag (b ∷ bs)

unfoldable pub are_tags : Bytes → Bool
are_tags [] = true
are_tags (b ∷ bs) = well_formed_tags (b ∷ bs) && differ (lent_tag (b ∷ bs)) all_kinds
