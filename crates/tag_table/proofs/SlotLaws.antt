-- The slots of a well-formed table, as the code cuts them out. Assumes nothing.
use Prim.Native.Nat.{ℕ, ◌+◌, ◌*◌, ◌-◌, ◌≤◌, ◌<◌}
use mathlib.Core.Path.{◌≡◌, refl, sym, ap, ◌∙◌}
use mathlib.Core.Bool.{true}
use native.Mathlib.Omega.{arith}
use mir.Val.{Fits}
use mir.Syntax.{w8}
use lib.ListN.{length, get_or, take, drop, length-take}
use lib.Seq.{take-take}
use Rattle.model.specs.declared.Kind.{Kind}
use Rattle.model.specs.Bytes.{Bytes, colon, Free}
use Rattle.model.specs.Output.{written, output_after}
use Rattle.model.specs.TagTable.{place_of, tag_length, slot_at, tag_at, well_formed_tags, tags_of, are_tags}
use Rattle.model.proofs.TagLaws.{plain-colon}
use Rattle.model.proofs.TagTableLaws.{tag-few, tag-plain, table-length, table_fits, tags_well, tags-lent}
use Rattle.format.specs.Put.{put_len, over}
use Rattle.format.proofs.OverLaws.{put_len_lem, put_over}

pub length_at : (table : Bytes) (k : ℕ) → k < length table → ((i : ℕ) → Fits w8 (get_or table i 0)) → (get_or table k 0 ≡ tag_length table k) × (get_or table k 0 ≤ 255)
unfolding tag_length
length_at table k h small = (refl, omega (arith, small k))

module _ (table : Bytes) (well : well_formed_tags table ≡ true) (k : ℕ) (few : k < 13) where
  pub in_table : k < length table
  in_table = omega (arith, table-length table well)

  pub tag_free : Free colon (tag_at table k)
  tag_free = plain-colon (tag_at table k) (tag-plain table k (table_fits table well k few))

  pub length-few : tag_length table k ≤ 16
  length-few = tag-few table k (table_fits table well k few)

  module _ (n : ℕ) (is : n ≡ tag_length table k) where
    pub slot_tag : (r : Bytes) → r ≡ take (13 + 16 * k + n - (13 + 16 * k)) (drop (13 + 16 * k) table) → r ≡ tag_at table k
    unfolding tag_at slot_at
    slot_tag r e =
        let z : 13 + 16 * k + n - (13 + 16 * k) ≡ tag_length table k = omega (arith, is) in
        (rw z at e) ∙ sym (take-take (tag_length table k) 16 (drop (13 + 16 * k) table) length-few)

-- ---- a kind's tag, by its place

module _ (tags : Bytes) (are : are_tags tags ≡ true) (lent : length tags ≡ 0 → ⊥) where
  pub lent_well : well_formed_tags tags ≡ true
  lent_well = tags_well tags are lent

  module _ (kind : Kind) (k : ℕ) (place : k ≡ place_of kind) (tag : Bytes) (is : tag ≡ tag_at tags k) where
    lent_is : tag ≡ tags_of tags kind
    lent_is = is ∙ ap (tag_at tags) place ∙ sym (tags-lent tags lent kind)

    pub lent_length : length tag ≡ length (tags_of tags kind)
    lent_length = ap length lent_is

    pub lent-few : k < 13 → length tag ≤ 16
    unfolding tag_at
    lent-few few =
        let l = length-few tags lent_well k few in
        let h : length tag ≡ length (take (tag_length tags k) (slot_at tags k)) = ap length is in
        omega (arith, simp length-take at h, l)

    module _ (out : Bytes) (room : length (tags_of tags kind) ≤ length out) where
      pub lent_put : (r : ℕ) → r ≡ put_len (written (length out) tag) → r ≡ length (tags_of tags kind)
      lent_put r e = put_len_lem (tags_of tags kind) out room r (rw lent_is at e)

      pub lent-over : (out' : Bytes) → out' ≡ output_after (written (length out) tag) out → out' ≡ over (tags_of tags kind) out
      lent-over out' e = put_over (tags_of tags kind) out room out' (rw lent_is at e)
