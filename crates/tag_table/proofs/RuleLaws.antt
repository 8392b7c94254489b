-- The rules of a lent table, tried tag by tag. Assumes nothing.
use Prim.Native.Nat.{ℕ, suc, ◌+◌, ◌*◌, ◌-◌, ◌≤◌, ◌<◌}
use mathlib.Core.Path.{◌≡◌, refl, sym, ap, ◌∙◌}
use mathlib.Core.Logic.{◌≢◌}
use mathlib.Core.Bool.{Bool, true, false, not, ◌&&◌}
use mathlib.Core.List.{[], ◌∷◌}
use native.Mathlib.Omega.{arith}
use native.Mathlib.Numerals.{add-one}
use lib.Dec.{leb, eqb}
use lib.ListN.{length, take, drop, length-drop}
use lib.Seq.{take-take, length-take-le, take-add, drop-drop, drop_at}
use borrow.Author.Tests.{le-leb, lt-leb, eq-eqb, ne_eqb}
use Rattle.model.specs.Lists.{all, from}
use Rattle.model.specs.Bytes.{Bytes, same_bytes}
use Rattle.model.specs.Tags.{all_kinds, tag_byte, differ}
use Rattle.model.specs.TagTable.{tag_length, slot_at, tag_at, lent_tag, tag_fits, well_formed_tags}
use Rattle.std.specs.List.{list_all}
use Rattle.tag_table.specs.Rules.{fits_from, other_than, differ_among, differ_from}

-- ---- bytes that pass a test

-- as the library asks it of each
pub all_is : (test : ℕ → Bool) (s : Bytes) → list_all test s ≡ all test s
unfolding all
all_is test [] = refl
all_is test (b ∷ s) = rw (all_is test s)

-- ---- one tag by itself

and_false : (a : Bool) → (a && false) ≡ false
and_false true = refl
and_false false = refl

module _ (table : Bytes) (size : length table ≡ 221) (k n : ℕ) (few : k < 13) (is : n ≡ tag_length table k) where
  pub length_zero : n ≡ 0 → false ≡ tag_fits table k
  unfolding tag_fits
  length_zero z = rw (← is, z)

  pub length_large : 16 < n → false ≡ tag_fits table k
  unfolding tag_fits
  length_large h = rw (← is, lt-leb n 16 h, and_false (leb 1 n))

  module _ (some : n ≢ 0) (most : n ≤ 16) where
    pub rest-inside : 13 + 16 * k + n ≤ 13 + 16 * k + 16
    rest-inside = omega (arith, most)

    pub tag-inside : 13 + 16 * k + n ≤ length table
    tag-inside = omega (arith, most, size)

    pub slot_inside : 13 + 16 * k + 16 ≤ length table
    slot_inside = omega (arith, size)

    at_rest : take (13 + 16 * k + 16 - (13 + 16 * k + n)) (drop (13 + 16 * k + n) table) ≡ drop n (take 16 (drop (13 + 16 * k) table))
    at_rest =
        let l = drop (13 + 16 * k) table in
        let z : 13 + 16 * k + 16 - (13 + 16 * k + n) ≡ 16 - n = omega (arith, most) in
        let all : n + (16 - n) ≡ 16 = omega (arith, most) in
        let size-left : n ≤ length l = simp length-drop (omega (arith, most, size)) in
        ap (λ (m : ℕ). take m (drop (13 + 16 * k + n) table)) z
        ∙ ap (take (16 - n)) (sym (drop-drop n (13 + 16 * k) table))
        ∙ sym (drop_at (take n l) (take (16 - n) (drop n l)) n (length-take-le n l size-left))
        ∙ ap (drop n) (sym (take-add n (16 - n) l) ∙ ap (λ (m : ℕ). take m l) all)

    at_tag : take (13 + 16 * k + n - (13 + 16 * k)) (drop (13 + 16 * k) table) ≡ take n (take 16 (drop (13 + 16 * k) table))
    at_tag = let z : 13 + 16 * k + n - (13 + 16 * k) ≡ n = omega arith in rw z (sym (take-take n 16 (drop (13 + 16 * k) table) most))

    first-tests : (leb 1 n && leb n 16) ≡ true
    first-tests = rw (le-leb 1 n (omega (arith, some)), le-leb n 16 most)

    module _ (z : Bool) (zeros : z ≡ all (λ b. eqb b 0) (take (13 + 16 * k + 16 - (13 + 16 * k + n)) (drop (13 + 16 * k + n) table))) where
      pub fits_not : z ≡ false → false ≡ tag_fits table k
      unfolding tag_fits slot_at
      fits_not f = rw (← is, le-leb 1 n (omega (arith, some)), le-leb n 16 most, ← at_rest, ← zeros, f)

      pub fits_if : z ≡ true → (r : Bool) → r ≡ all tag_byte (take (13 + 16 * k + n - (13 + 16 * k)) (drop (13 + 16 * k) table)) → r ≡ tag_fits table k
      unfolding tag_fits slot_at tag_at
      fits_if t r e = e ∙ sym (rw (← is, le-leb 1 n (omega (arith, some)), le-leb n 16 most, ← at_rest, ← zeros, t, ← at_tag))

-- ---- all tags, one after the other

module _ (table : Bytes) where
  pub size_wrong : length table ≢ 221 → false ≡ well_formed_tags table
  unfolding well_formed_tags
  size_wrong h = rw (ne_eqb (length table) 221 h)

  module _ (size : length table ≡ 221) where
    from_first : fits_from table 0 ≡ well_formed_tags table
    unfolding well_formed_tags fits_from
    from_first = sym (rw (eq-eqb (length table) 221 size))

    module _ (k : ℕ) (so_far : fits_from table k ≡ well_formed_tags table) where
      one_more : k < 13 → well_formed_tags table ≡ (tag_fits table k && fits_from table (k + 1))
      unfolding fits_from all from
      one_more h = let e : 13 - k ≡ suc (13 - (k + 1)) = omega (arith, h) in sym so_far ∙ rw (e, add-one k)

      pub fits_fails : k < 13 → (r : Bool) → r ≡ tag_fits table k → r ≡ false → false ≡ well_formed_tags table
      fits_fails h r e f = sym (one_more h ∙ rw (sym e ∙ f))

      pub fits_next : k < 13 → (r : Bool) → r ≡ tag_fits table k → r ≡ true → fits_from table (k + 1) ≡ well_formed_tags table
      fits_next h r e t = sym (one_more h ∙ rw (sym e ∙ t))

      pub fits_end : 13 ≤ k → true ≡ well_formed_tags table
      unfolding fits_from all from
      fits_end h = let e : 13 - k ≡ 0 = omega (arith, h) in rw e at so_far

    pub fits_first : fits_from table 0 ≡ well_formed_tags table
    fits_first = from_first

-- ---- tags compared

module _ (table : Bytes) (k j : ℕ) (so_far : other_than table k j ≡ other_than table k (k + 1)) where
  other-more : j < 13 → other_than table k (k + 1) ≡ (not (same_bytes (tag_at table j) (tag_at table k)) && other_than table k (j + 1))
  unfolding other_than all from
  other-more h = let e : 13 - j ≡ suc (13 - (j + 1)) = omega (arith, h) in sym so_far ∙ rw (e, add-one j)

  pub other_fails : j < 13 → (r : Bool) → r ≡ same_bytes (tag_at table j) (tag_at table k) → r ≡ true → false ≡ other_than table k (k + 1)
  other_fails h r e t = sym (other-more h ∙ rw (sym e ∙ t))

  pub other_next : j < 13 → (r : Bool) → r ≡ same_bytes (tag_at table j) (tag_at table k) → r ≡ false → other_than table k (j + 1) ≡ other_than table k (k + 1)
  other_next h r e f = sym (other-more h ∙ rw (sym e ∙ f))

  pub other_end : 13 ≤ j → true ≡ other_than table k (k + 1)
  unfolding other_than all from
  other_end h = let e : 13 - j ≡ 0 = omega (arith, h) in rw e at so_far

pub tags_same : (table : Bytes) (i j : ℕ) (a b : Bytes) (r : Bool) → a ≡ tag_at table i → b ≡ tag_at table j → r ≡ same_bytes a b → r ≡ same_bytes (tag_at table i) (tag_at table j)
tags_same table i j a b r p q e = rw (p, q) at e

module _ (table : Bytes) (k : ℕ) (so_far : differ_from table k ≡ differ (lent_tag table) all_kinds) where
  differ-more : k < 13 → differ (lent_tag table) all_kinds ≡ (other_than table k (k + 1) && differ_from table (k + 1))
  unfolding differ_from differ_among other_than from
  differ-more h = let e : 13 - k ≡ suc (13 - (k + 1)) = omega (arith, h) in sym so_far ∙ rw (e, add-one k)

  pub differ_fails : k < 13 → (r : Bool) → r ≡ other_than table k (k + 1) → r ≡ false → false ≡ differ (lent_tag table) all_kinds
  differ_fails h r e f = sym (differ-more h ∙ rw (sym e ∙ f))

  pub differ_next : k < 13 → (r : Bool) → r ≡ other_than table k (k + 1) → r ≡ true → differ_from table (k + 1) ≡ differ (lent_tag table) all_kinds
  differ_next h r e t = sym (differ-more h ∙ rw (sym e ∙ t))

  pub differ_end : 13 ≤ k → true ≡ differ (lent_tag table) all_kinds
  unfolding differ_from differ_among from
  differ_end h = let e : 13 - k ≡ 0 = omega (arith, h) in rw e at so_far

pub differ_first : (table : Bytes) → differ_from table 0 ≡ differ (lent_tag table) all_kinds
unfolding differ_from differ_among differ all all_kinds from
differ_first table = refl
