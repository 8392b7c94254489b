-- A table loaded: 21 before 22. Assumes nothing.
use mathlib.Core.Path.{◌≡◌, refl, sym, ◌∙◌}
use mathlib.Core.Bool.{Bool, true, false}
use mathlib.Core.List.{[], ◌∷◌}
use native.Mathlib.Omega.{arith}
use lib.Dec.{eqb}
use lib.ListN.{length}
use Rattle.std.proofs.lemmas.Bool.{eqb-true}
use Rattle.model.specs.declared.Fault.TheVariants.{MalformedTags, EqualTags}
use Rattle.model.specs.Bytes.{Bytes}
use Rattle.model.specs.Answer.{accepted}
use Rattle.model.specs.Tags.{all_kinds, default_tag, differ}
use Rattle.model.specs.TagTable.{lent_tag, well_formed_tags, load_tags, tags_of, are_tags}
use Rattle.model.proofs.TagTableLaws.{table-length}
use Rattle.tag_table.specs.Loading.{LoadedAs}
use Rattle.std.specs.Prelude.{Err}

module _ (table : Bytes) (w : Bool) (well : w ≡ well_formed_tags table) where
  pub load_well : w ≡ true → well_formed_tags table ≡ true
  load_well t = sym well ∙ t

  pub load_malformed : w ≡ false → LoadedAs table (Err MalformedTags)
  unfolding load_tags
  load_malformed f = rw (← well, f)

  module _ (yes : w ≡ true) (d : Bool) (different : d ≡ differ (lent_tag table) all_kinds) where
    pub load_equal : d ≡ false → LoadedAs table (Err EqualTags)
    unfolding load_tags
    load_equal f = rw (← well, yes, ← different, f)

    pub load_all : d ≡ true → (are_tags table ≡ true) × (load_tags table ≡ accepted (tags_of table))
    unfolding load_tags tags_of are_tags
    load_all t = go table (sym well ∙ yes) (sym different ∙ t)
      where
        go : (bytes : Bytes) → well_formed_tags bytes ≡ true → differ (lent_tag bytes) all_kinds ≡ true
            → (are_tags bytes ≡ true) × (load_tags bytes ≡ accepted (tags_of bytes))
        go [] a b = absurd (let e = table-length [] a in omega (arith, e))
        go (x ∷ xs) a b = (rw (a, b), rw (a, b))

-- the empty table stands for the default tags
pub no_table : (are_tags [] ≡ true) × (tags_of [] ≡ default_tag)
unfolding tags_of are_tags
no_table = (refl, refl)

pub empty_table : (table : Bytes) → eqb (length table) 0 ≡ true → tags_of table ≡ default_tag
unfolding tags_of
empty_table [] e = refl
empty_table (x ∷ xs) e = let z = eqb-true (length (x ∷ xs)) 0 e in absurd (omega (arith, z))
