-- The default tags, read and written. Assumes nothing.
use Prim.Native.Nat.{ℕ, ◌≤◌}
use mathlib.Core.Path.{◌≡◌, refl, sym, ap, ◌∙◌}
use mathlib.Core.Bool.{Bool, true, false, not}
use mathlib.Core.List.Memᴰ.{head as here}
use mathlib.Core.List.Memᴰ.{tail as there}
use mathlib.Core.List.{[], ◌∷◌, Memᴰ as Member}
use native.Mathlib.Omega.{arith}
use lib.ListN.{length, get_or, take}
use lib.Seq.{length-take-le}
use borrow.Author.Tests.{not-true}
use Rattle.model.specs.declared.Kind.{Kind}
use Rattle.model.specs.declared.Kind.TheVariants as Kd
use Rattle.model.specs.Lists.{all}
use Rattle.model.specs.Bytes.{Bytes, ascii, same_bytes, before}
use Rattle.model.specs.Tags.{all_kinds, default_tag}
use Rattle.model.specs.TagTable.{tags_of}
use Rattle.model.specs.Output.{written, output_after}
use Rattle.model.proofs.ByteLaws.{before_prefix}
use Rattle.model.proofs.ListLaws.{all-each}
use Rattle.model.proofs.KeyOrder.{bytes_same}
use Rattle.model.proofs.TagLaws.{kind_member}
use Rattle.model.proofs.TagTableLaws.{tags-default}
use Rattle.format.specs.Put.{put_len, over}
use Rattle.format.proofs.OverLaws.{put_len_lem, put_over}
use Rattle.tag_table.specs.Kinds.{body_at, TaggedAs, FoundIn, totals, NoneOf, NamedAs}
use Rattle.tag_table.specs.Written.{TagOf}
use Rattle.tag_table.proofs.KindLaws.{body_after}
use Rattle.std.specs.Prelude.{Option, Some, None}
use Rattle.tag_table.specs.declared.Tagged.{Tagged}
use Rattle.tag_table.specs.declared.default.Tag.{Tag}

-- ---- a tag's kind

pub named_as : (kind : Kind) (tag : Bytes) (d : Bool) → d ≡ same_bytes tag (default_tag kind) → d ≡ true → tag ≡ default_tag kind
named_as kind tag d e t = bytes_same.same_eq tag (default_tag kind) (sym e ∙ t)

-- a tag that is another
pub record Not (tag : Bytes) (kind : Kind) : Type 0 where
  pub is : same_bytes tag (default_tag kind) ≡ false

pub not_tag : {tag : Bytes} {kind : Kind} (d : Bool) → d ≡ same_bytes tag (default_tag kind) → d ≡ false → Not tag kind
not_tag d e f = record { is = sym e ∙ f }

module _ (tag : Bytes) where
  pub no_total : Not tag Kd.FunctionsFound → Not tag Kd.FunctionsHit → Not tag Kd.BranchesFound → Not tag Kd.BranchesHit → Not tag Kd.LinesFound → Not tag Kd.LinesHit
      → NoneOf totals tag
  unfolding all
  no_total a b c d e f = record { none = rw (a.is, b.is, c.is, d.is, e.is, f.is) }

  no_tag : all (λ kind. not (same_bytes tag (default_tag kind))) totals ≡ true → Not tag Kd.TestName → Not tag Kd.SourceFile → Not tag Kd.FunctionName → Not tag Kd.FunctionData
      → Not tag Kd.BranchData → Not tag Kd.LineData → Not tag Kd.EndOfRecord → all (λ kind. not (same_bytes tag (default_tag kind))) all_kinds ≡ true
  unfolding all all_kinds
  no_tag t a b c d e f g =
      let other : (kind : Kind) → Member kind totals → same_bytes tag (default_tag kind) ≡ false =
      λ kind m. not-true (same_bytes tag (default_tag kind)) (all-each (λ kind. not (same_bytes tag (default_tag kind))) totals t kind m) in
      rw (
        a.is,
        b.is,
        c.is,
        d.is,
        e.is,
        f.is,
        g.is,
        other Kd.FunctionsFound (here refl),
        other Kd.FunctionsHit (there (here refl)),
        other Kd.BranchesFound (there (there (here refl))),
        other Kd.BranchesHit (there (there (there (here refl)))),
        other Kd.LinesFound (there (there (there (there (here refl))))),
        other Kd.LinesHit (there (there (there (there (there (here refl)))))),
      )

  pub total_named : (r : Option Kind) → NamedAs totals tag r → Not tag Kd.TestName → Not tag Kd.SourceFile → Not tag Kd.FunctionName → Not tag Kd.FunctionData → Not tag Kd.BranchData
      → Not tag Kd.LineData → Not tag Kd.EndOfRecord → NamedAs all_kinds tag r
  total_named (Some kind) n a b c d e f g = n
  total_named None n a b c d e f g = record { none = no_tag n.none a b c d e f g }

-- ---- DA and BRDA, known by their first bytes

pub data_found : (s : Bytes) → 3 ≤ length s → get_or s 0 0 ≡ 68 → get_or s 1 0 ≡ 65 → get_or s 2 0 ≡ 58 → TaggedAs default_tag s (record { kind = Kd.LineData; at = 3 })
unfolding before default_tag
data_found [] h a b c = absurd (omega (arith, h))
data_found (x ∷ []) h a b c = absurd (omega (arith, h))
data_found (x ∷ y ∷ []) h a b c = absurd (omega (arith, h))
data_found (x ∷ y ∷ z ∷ s) h a b c =
    let is : before 58 (x ∷ y ∷ z ∷ s) ≡ default_tag Kd.LineData = rw (a, b, c) in
    record { is = is; body = body_after (length (x ∷ y ∷ z ∷ s)) 2 (omega (arith, h)) ∙ ap (λ (t : Bytes). body_at (length (x ∷ y ∷ z ∷ s)) (length t)) (sym is); within = h }

pub branch_found : (s : Bytes) → 5 ≤ length s → get_or s 0 0 ≡ 66 → get_or s 1 0 ≡ 82 → get_or s 2 0 ≡ 68 → get_or s 3 0 ≡ 65 → get_or s 4 0 ≡ 58
    → TaggedAs default_tag s (record { kind = Kd.BranchData; at = 5 })
unfolding before default_tag
branch_found [] h a b c d e = absurd (omega (arith, h))
branch_found (x ∷ []) h a b c d e = absurd (omega (arith, h))
branch_found (x ∷ y ∷ []) h a b c d e = absurd (omega (arith, h))
branch_found (x ∷ y ∷ z ∷ []) h a b c d e = absurd (omega (arith, h))
branch_found (x ∷ y ∷ z ∷ u ∷ []) h a b c d e = absurd (omega (arith, h))
branch_found (x ∷ y ∷ z ∷ u ∷ v ∷ s) h a b c d e =
    let is : before 58 (x ∷ y ∷ z ∷ u ∷ v ∷ s) ≡ default_tag Kd.BranchData = rw (a, b, c, d, e) in
    record {
      is = is;
      body = body_after (length (x ∷ y ∷ z ∷ u ∷ v ∷ s)) 4 (omega (arith, h)) ∙ ap (λ (t : Bytes). body_at (length (x ∷ y ∷ z ∷ u ∷ v ∷ s)) (length t)) (sym is);
      within = h;
    }

-- ---- a whole line

module _ (s : Bytes) (mark : ℕ) (found : mark ≡ length (before 58 s)) where
  pub named_found : (kind : Kind) (at : ℕ) → at ≡ body_at (length s) mark → at ≤ length s → NamedAs all_kinds (take mark s) (Some kind) → TaggedAs default_tag s (record { kind = kind; at = at })
  named_found kind at body within n =
      record {
        is = sym (before_prefix 58 s) ∙ ap (λ (m : ℕ). take m s) (sym found) ∙ n;
        body = body ∙ ap (body_at (length s)) found;
        within = within;
      }

  pub named_none : NamedAs all_kinds (take mark s) None → FoundIn default_tag s None
  named_none n =
      record {
        none = λ kind.
            ap (λ (t : Bytes). same_bytes t (default_tag kind)) (sym (before_prefix 58 s) ∙ ap (λ (m : ℕ). take m s) (sym found))
            ∙ not-true (same_bytes (take mark s) (default_tag kind))
            (all-each (λ kind. not (same_bytes (take mark s) (default_tag kind))) all_kinds n.none kind (kind_member kind));
      }

pub default_found : (tags s : Bytes) (r : Option Tagged) → length tags ≡ 0 → FoundIn default_tag s r → FoundIn (tags_of tags) s r
default_found tags s (Some t) none f = record { is = f.is ∙ sym (tags-default tags none t.kind); body = f.body; within = f.within }
default_found tags s None none f = record { none = λ kind. ap (same_bytes (before 58 s)) (tags-default tags none kind) ∙ f.none kind }

-- ---- a tag written

pub tag_is : (kind other : Kind) (r : Tag) → kind ≡ other → TagOf other r → TagOf kind r
tag_is kind other r e t = rw e t

pub tag_size : (kind : Kind) (r : Tag) → TagOf kind r → r.len ≡ length (default_tag kind)
tag_size kind r t = sym (length-take-le r.len r.bytes t.long) ∙ ap length t.is

module _ (kind : Kind) (s old : Bytes) (is : s ≡ default_tag kind) (room : length (default_tag kind) ≤ length old) where
  tag-room : length s ≤ length old
  tag-room = rw is room

  pub tag-written : (n : ℕ) → n ≡ put_len (written (length old) s) → n ≡ length (default_tag kind)
  tag-written n e = put_len_lem s old tag-room n e ∙ ap length is

  pub tag-out : (out : Bytes) → out ≡ output_after (written (length old) s) old → out ≡ over (default_tag kind) old
  tag-out out e = put_over s old tag-room out e ∙ ap (λ (s : Bytes). over s old) is

pub tag_data : (kind : Kind) → kind ≡ Kd.LineData → ascii "DA" ≡ default_tag kind
unfolding default_tag
tag_data kind e = rw e

pub tag-branch : (kind : Kind) → kind ≡ Kd.BranchData → ascii "BRDA" ≡ default_tag kind
unfolding default_tag
tag-branch kind e = rw e

module _ (tags : Bytes) (kind : Kind) (none : length tags ≡ 0) where
  default-is : tags_of tags kind ≡ default_tag kind
  default-is = tags-default tags none kind

  pub default_len : (r : ℕ) → r ≡ length (default_tag kind) → r ≡ length (tags_of tags kind)
  default_len r e = rw default-is e

  pub default-room : (n : ℕ) → length (tags_of tags kind) ≤ n → length (default_tag kind) ≤ n
  default-room n h = rw default-is at h

  pub default-out : (old out : Bytes) → out ≡ over (default_tag kind) old → out ≡ over (tags_of tags kind) old
  default-out old out e = rw default-is e
