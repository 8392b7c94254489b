-- A section put among kept ones of which it is known how its key compares with theirs. Assumes nothing.
use mathlib.Core.Path.{◌≡◌, refl, ap, ap₂, ◌∙◌}
use mathlib.Core.Logic.{◌≢◌}
use mathlib.Core.Bool.{Bool, true, false}
use mathlib.Core.List.{List, [], ◌∷◌, ◌++◌, map, append-nil}
use Prim.Native.Nat.{Ordering}
use lib.Dec.{compare_is_eq}
use lib.ListN.{length}
use Rattle.model.specs.Order.{is_less, is_greater}
use Rattle.std.specs.Prelude.{if◌then◌else◌}
use Rattle.model.specs.Lists.{filter}
use Rattle.model.specs.Bytes.{Bytes}
use Rattle.model.specs.Path.{components}
use Rattle.model.specs.Report.{Item, section_item, Entry, Report, SectionKey, section_key, in_section, compare_sections}
use Rattle.model.specs.Reading.{spelling_of, replace_section, keep_section}
use Rattle.model.proofs.ListLaws.{All, select_append}

module _ (key : SectionKey) where
  -- the entries with which the key compares as o
  abbrev pub Compared : Ordering → Report → Type 0
  Compared o l = All (λ e. compare_sections key (section_key e) ≡ o) l

  module _ (holds : Ordering → Bool) where
    abbrev test : Entry → Bool
    test e = holds (compare_sections key (section_key e))

    select_compared : (o : Ordering) (l : Report) → Compared o l → filter test l ≡ (if holds o then l else [])
    unfolding filter
    select_compared o [] h = none (holds o)
      where
        none : (b : Bool) → ◌≡◌ {A = Report} [] (if b then [] else [])
        none true = refl
        none false = refl
    select_compared o (e ∷ l) h = rw h.0 (go (holds o) (select_compared o l h.1))
      where
        go : (b : Bool) → filter test l ≡ (if b then l else []) → (if b then e ∷ filter test l else filter test l) ≡ (if b then e ∷ l else [])
        go true q = ap (λ (r : Report). e ∷ r) q
        go false q = q

    select_three : (low same high : Report) → Compared Ordering.gt low → Compared Ordering.eq same → Compared Ordering.lt high
        → filter test (low ++ (same ++ high)) ≡ (if holds Ordering.gt then low else []) ++
        ((if holds Ordering.eq then same else []) ++ (if holds Ordering.lt then high else []))
    select_three low same high g e l =
        select_append test low (same ++ high)
        ∙ ap₂ ◌++◌ (select_compared Ordering.gt low g)
        (select_append test same high ∙ ap₂ ◌++◌ (select_compared Ordering.eq same e) (select_compared Ordering.lt high l))

-- the section's entries replace those that have its key
pub replaced : (test path : Bytes) (items : List Item) (low same high : Report)
    → Compared (test, components path) Ordering.gt low → Compared (test, components path) Ordering.eq same
    → Compared (test, components path) Ordering.lt high
    → replace_section test path items (low ++ (same ++ high)) ≡ low ++
    (map (in_section (test, components path)) (section_item (spelling_of path same) ∷ items) ++ high)
unfolding replace_section
replaced test path items low same high g e l =
    let key : SectionKey = (test, components path) in
    ap₂ ◌++◌ (select_three key is_greater low same high g e l ∙ append-nil low)
    (ap₂ ◌++◌
    (ap (λ (r : Report). map (in_section key) (section_item (spelling_of path r) ∷ items)) (select_three key compare_is_eq low same high g e l ∙ append-nil same))
    (select_three key is_less low same high g e l))

pub keep_some : (test path : Bytes) (items : List Item) (kept : Report) → length items ≢ 0
    → keep_section test path items kept ≡ replace_section test path items kept
unfolding keep_section
keep_some test path [] kept h = absurd (h refl)
keep_some test path (i ∷ items) kept h = refl
