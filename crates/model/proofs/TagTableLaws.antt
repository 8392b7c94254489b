-- Laws of a lent table of tags: one that loads is lawful. Assumes nothing.
use Prim.Native.Nat.{ℕ, ◌+◌, ◌*◌, ◌≤◌, ◌<◌}
use mathlib.Core.Path.{◌≡◌, refl, sym, subst}
use mathlib.Core.Bool.{Bool, true, false, cond, ◌&&◌}
use mathlib.Core.List.{[], ◌∷◌}
use native.Mathlib.Omega.{arith}
use lib.Dec.{leb, eqb, lit≤}
use lib.ListN.{length, take, drop, length-take}
use borrow.Author.Tests.{leb-true, eqb-true}
use Rattle.ordmap.proofs.Results.{accepted_inj, not_refused}
use Rattle.model.specs.declared.Fault.TheVariants.{MalformedTags, EqualTags}
use Rattle.model.specs.declared.Kind.{Kind}
use Rattle.model.specs.declared.Kind.TheVariants as Kd
use Rattle.model.specs.Lists.{all, from}
use Rattle.model.specs.Bytes.{Bytes}
use Rattle.model.specs.Answer.{Answer, accepted, refuse}
use Rattle.model.specs.Tags.{all_kinds, default_tag, tag_byte, differ, Lawful}
use Rattle.model.specs.TagTable.{place_of, tag_length, slot_at, tag_at, lent_tag, tag_fits, well_formed_tags, load_tags, table_of, tags_of, are_tags}
use Rattle.model.specs.Compute.{open_all}
use Rattle.model.proofs.ListLaws.{and_left, and_right, all-each, each_all, from_member}
use Rattle.model.proofs.TagLaws.{default_tag_lawful}

-- ---- one tag

module _ (table : Bytes) (k : ℕ) (fits : tag_fits table k ≡ true) where
  abbrev some_bytes : Bool
  some_bytes = leb 1 (tag_length table k)

  abbrev few_bytes : Bool
  few_bytes = leb (tag_length table k) 16

  abbrev zeros : Bool
  zeros = all (λ b. eqb b 0) (drop (tag_length table k) (slot_at table k))

  first_three : (some_bytes && few_bytes && zeros) ≡ true
  unfolding tag_fits
  first_three = and_left (some_bytes && few_bytes && zeros) (all tag_byte (tag_at table k)) fits

  first_two : (some_bytes && few_bytes) ≡ true
  first_two = and_left (some_bytes && few_bytes) zeros first_three

  pub tag_some : 1 ≤ tag_length table k
  tag_some = leb-true 1 (tag_length table k) (and_left some_bytes few_bytes first_two)

  pub tag-few : tag_length table k ≤ 16
  tag-few = leb-true (tag_length table k) 16 (and_right some_bytes few_bytes first_two)

  pub tag-plain : all tag_byte (tag_at table k) ≡ true
  unfolding tag_fits
  tag-plain = and_right (some_bytes && few_bytes && zeros) (all tag_byte (tag_at table k)) fits

-- ---- a table that loads

module _ (table : Bytes) (well : well_formed_tags table ≡ true) where
  pub table-length : length table ≡ 221
  unfolding well_formed_tags
  table-length = eqb-true (length table) 221 (and_left (eqb (length table) 221) (all (tag_fits table) (from 0 13)) well)

  fits_all : all (tag_fits table) (from 0 13) ≡ true
  unfolding well_formed_tags
  fits_all = and_right (eqb (length table) 221) (all (tag_fits table) (from 0 13)) well

  pub table_fits : (k : ℕ) → k < 13 → tag_fits table k ≡ true
  table_fits k few = all-each (tag_fits table) (from 0 13) fits_all k (from_member 0 13 k (omega arith) (omega arith))

  plain-all : all (λ k. all tag_byte (tag_at table k)) (from 0 13) ≡ true
  plain-all =
      each_all (λ k. all tag_byte (tag_at table k)) (from 0 13) (λ k m. tag-plain table k (all-each (tag_fits table) (from 0 13) fits_all k m))

  lawful : differ (lent_tag table) all_kinds ≡ true → Lawful (lent_tag table)
  unfolding all from all_kinds
  lawful d = record { different = d; plain = plain-all }

pub loads_lawful : (table : Bytes) (tag : Kind → Bytes) → load_tags table ≡ accepted tag → Lawful tag
unfolding load_tags
loads_lawful table tag e = go (well_formed_tags table) refl (differ (lent_tag table) all_kinds) refl e
  where
    go : (a : Bool) → well_formed_tags table ≡ a → (b : Bool) → differ (lent_tag table) all_kinds ≡ b
        → ◌≡◌ {A = Answer (Kind → Bytes)} (cond a (cond b (accepted (lent_tag table)) (refuse EqualTags)) (refuse MalformedTags)) (accepted tag) → Lawful tag
    go true w true d q = subst Lawful (accepted_inj q) (lawful table w d)
    go true w false d q = absurd (not_refused (sym q))
    go false w b d q = absurd (not_refused (sym q))

-- ---- inside the library

module _ (tags : Bytes) (are : are_tags tags ≡ true) where
  pub tags_lawful : Lawful (tags_of tags)
  unfolding tags_of are_tags
  tags_lawful = go tags are
    where
      go : (ts : Bytes) → are_tags ts ≡ true → Lawful (tags_of ts)
      go [] a = default_tag_lawful
      go (b ∷ bs) a = let t = b ∷ bs in lawful t (and_left (well_formed_tags t) (differ (lent_tag t) all_kinds) a) (and_right (well_formed_tags t) (differ (lent_tag t) all_kinds) a)

  module _ (lent : length tags ≡ 0 → ⊥) where
    pub tags_well : well_formed_tags tags ≡ true
    unfolding are_tags
    tags_well = go tags are lent
      where
        go : (ts : Bytes) → are_tags ts ≡ true → (length ts ≡ 0 → ⊥) → well_formed_tags ts ≡ true
        go [] a l = absurd (l refl)
        go (b ∷ bs) a l = let t = b ∷ bs in and_left (well_formed_tags t) (differ (lent_tag t) all_kinds) a

pub tags-lent : (tags : Bytes) → (length tags ≡ 0 → ⊥) → (kind : Kind) → tags_of tags kind ≡ lent_tag tags kind
unfolding tags_of
tags-lent [] l kind = absurd (l refl)
tags-lent (b ∷ bs) l kind = refl

pub tags-default : (tags : Bytes) → length tags ≡ 0 → (kind : Kind) → tags_of tags kind ≡ default_tag kind
unfolding tags_of
tags-default [] l kind = refl
tags-default (b ∷ bs) l kind = absurd (omega (arith, l))

default-few : (kind : Kind) → length (default_tag kind) ≤ 16
unfolding default_tag
default-few Kd.TestName = lit≤ tt
default-few Kd.SourceFile = lit≤ tt
default-few Kd.FunctionName = lit≤ tt
default-few Kd.FunctionData = lit≤ tt
default-few Kd.FunctionsFound = lit≤ tt
default-few Kd.FunctionsHit = lit≤ tt
default-few Kd.BranchData = lit≤ tt
default-few Kd.BranchesFound = lit≤ tt
default-few Kd.BranchesHit = lit≤ tt
default-few Kd.LineData = lit≤ tt
default-few Kd.LinesFound = lit≤ tt
default-few Kd.LinesHit = lit≤ tt
default-few Kd.EndOfRecord = lit≤ tt

pub tags-few : (tags : Bytes) → are_tags tags ≡ true → (kind : Kind) → length (tags_of tags kind) ≤ 16
unfolding tags_of tag_at slot_at
tags-few [] are kind = default-few kind
tags-few (b ∷ bs) are kind =
    let l = length-take (tag_length (b ∷ bs) (place_of kind)) (take 16 (drop (13 + 16 * place_of kind) (b ∷ bs))) in
    let m = length-take 16 (drop (13 + 16 * place_of kind) (b ∷ bs)) in
    omega (arith, l, m)

-- ---- the default table is one that loads

pub default_loads : load_tags (table_of default_tag) ≡ accepted (lent_tag (table_of default_tag))
unfolding open_all
default_loads = refl

pub default-holds : (kind : Kind) → lent_tag (table_of default_tag) kind ≡ default_tag kind
unfolding open_all
default-holds Kd.TestName = refl
default-holds Kd.SourceFile = refl
default-holds Kd.FunctionName = refl
default-holds Kd.FunctionData = refl
default-holds Kd.FunctionsFound = refl
default-holds Kd.FunctionsHit = refl
default-holds Kd.BranchData = refl
default-holds Kd.BranchesFound = refl
default-holds Kd.BranchesHit = refl
default-holds Kd.LineData = refl
default-holds Kd.LinesFound = refl
default-holds Kd.LinesHit = refl
default-holds Kd.EndOfRecord = refl
