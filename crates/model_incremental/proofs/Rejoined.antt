-- Reports joined in groups, and what the groups make joined again: the joined report of all, and the same conditions. Assumes nothing.
use Prim.Native.Nat.{ℕ}
use mathlib.Core.Path.{◌≡◌, refl, sym, ap, ◌∙◌}
use mathlib.Core.Bool.{Bool, true, false, cond}
use mathlib.Core.List.Memᴰ.{head as here}
use mathlib.Core.List.Memᴰ.{tail as there}
use mathlib.Core.List.{List, [], ◌∷◌, ◌++◌, map, append_assoc, Memᴰ as Member}
use mathlib.Core.List.Memᴰ
use mathlib.Core.Option.{Option, some}
use lib.Dec.{compare_is_eq, leb, eqb}
use Rattle.ordmap.specs.Keyed.{with_key}
use Rattle.ordmap.specs.Gathering.{flat, Same}
use Rattle.ordmap.proofs.Maps.{ext}
use Rattle.ordmap.proofs.Members.{only_member, flat_append}
use Rattle.ordmap.proofs.Grouping.{held, only_sorted}
use Rattle.model.specs.Bytes.{same_bytes}
use Rattle.model.specs.Limits.{u64_max}
use Rattle.model.specs.Report.{Item, item_key, Entry, Report, Key, compare_keys, entry_key, start_of, checksum_of, in_section, section_key}
use Rattle.model.specs.Joined.{all_entries, items_at, agreeing, given, total, summed_of, joined_item, joined_report}
use Rattle.model.specs.Joined.{at_each_key, starts_agree, checksums_agree, sums_fit}
use Rattle.model.proofs.ListLaws.{each_all}
use Rattle.model.proofs.KeyOrder.{keys-order, bytes_same}
use Rattle.model.proofs.AnyOrder.{number_same}
use Rattle.model.proofs.Entries.{items, joined_at}
use Rattle.model.proofs.JoinedLaws.{at, at_each, joined-sorted, joined-found}
use Rattle.model_incremental.proofs.JoinedItems.{through, joined_middle, agreeing_middle, total_middle, joined-start, joined-checksum, joined-sum}

-- ---- one key

module _ (key : Key) where
  -- the entries of the key
  abbrev pub of : List Entry → List Entry
  of l = with_key entry_key compare_keys key l

  pub of_append : (l m : List Entry) → of (l ++ m) ≡ of l ++ of m
  of_append [] m = refl
  of_append (e ∷ l) m = go (compare_is_eq (compare_keys key (entry_key e))) (of_append l m)
    where
      go : (t : Bool) → of (l ++ m) ≡ of l ++ of m → cond t (e ∷ of (l ++ m)) (of (l ++ m)) ≡ cond t (e ∷ of l) (of l) ++ of m
      go true ih = ap (λ (r : List Entry). e ∷ r) ih
      go false ih = ih

  -- of a joined report, the joined entry
  of_joined : (group : List Report) → of (joined_report group) ≡ held (joined_at (of (all_entries group)))
  of_joined group = only_sorted entry_key compare_keys keys-order key (joined_report group) (joined-sorted group) ∙ ap held (joined-found group key)

  of_key : (l : List Entry) (i : Item) → Member i (items (of l)) → item_key i ≡ key.1
  unfolding entry_key
  of_key l i m =
      let (e, n, q) = Memᴰ.of_map (λ e. e.item) (of l) m in
      ap item_key (sym q) ∙ ap (λ (x : Key). x.1) (only_member entry_key compare_keys keys-order key l n).1

  -- a value of the key's entries that stays when what a group makes stands in the group's place
  abbrev Kept : {X : Type 0} → (List Entry → X) → List Report → Type 0
  Kept value group =
      (before after : List Entry)
      → value (of before ++ (held (joined_at (of (all_entries group))) ++ of after)) ≡ value (of before ++ (of (all_entries group) ++ of after))

  -- ALL GROUPS, one after the other
  module _ {X : Type 0} (value : List Entry → X) where
    regrouped : (before : List Entry) (groups : List (List Report)) → ((group : List Report) → Member group groups → Kept value group)
        → value (of (before ++ flat (map joined_report groups))) ≡ value (of (before ++ flat (flat groups)))
    regrouped before [] h = refl
    regrouped before (g ∷ gs) h =
        ap value (of_append before (joined_report g ++ rest) ∙ ap (λ (l : List Entry). of before ++ l) (of_append (joined_report g) rest))
        ∙ ap (λ (l : List Entry). value (of before ++ (l ++ of rest))) (of_joined g)
        ∙ h g (here refl) before rest
        ∙ ap value (ap (λ (l : List Entry). of before ++ l) (sym (of_append (flat g) rest)) ∙ sym (of_append before (flat g ++ rest)))
        ∙ ap (λ (l : List Entry). value (of l)) (sym (append_assoc before (flat g) rest))
        ∙ regrouped (before ++ flat g) gs (λ group m. h group (there m))
        ∙ ap (λ (l : List Entry). value (of l))
        (append_assoc before (flat g) (flat (flat gs)) ∙ ap (λ (l : List Entry). before ++ l) (sym (flat_append g (flat gs))))
      where
        rest : List Entry
        rest = flat (map joined_report gs)

    pub at_groups : (groups : List (List Report)) → ((group : List Report) → Member group groups → Kept value group)
        → value (at (map joined_report groups) key) ≡ value (at (flat groups) key)
    at_groups groups h = regrouped [] groups h

  -- a value of the key's items
  items_kept : {X : Type 0} (value : List Item → X) (group : List Report)
      → ((before after : List Item) (j : Item) (js : List Item) → ((i : Item) → Member i before → item_key i ≡ item_key j)
      → ((i : Item) → Member i (j ∷ js) → item_key j ≡ item_key i) → items (of (all_entries group)) ≡ j ∷ js
      → value (before ++ (joined_item (j ∷ js) ∷ after)) ≡ value (before ++ (j ∷ js ++ after)))
      → Kept (λ l. value (items l)) group
  items_kept value group h before after = go (of (all_entries group)) refl
    where
      go : (l : List Entry) → of (all_entries group) ≡ l
          → value (items (of before ++ (held (joined_at l) ++ of after))) ≡ value (items (of before ++ (l ++ of after)))
      go [] q = refl
      go (e ∷ es) q =
          through value (λ (x : Entry). x.item) (of before) (e ∷ es) (of after) (in_section (section_key e) (joined_item (items (e ∷ es)))) refl
          (h (items (of before)) (items (of after)) e.item (items es) (λ i m. of_key before i m ∙ sym first)
          (λ i m. first ∙ sym (own i m)) (ap items q))
        where
          own : (i : Item) → Member i (items (e ∷ es)) → item_key i ≡ key.1
          own i m = of_key (all_entries group) i (rw q m)

          first : item_key e.item ≡ key.1
          first = own e.item (here refl)

  -- what the key's entries make
  joined-kept : (group : List Report) → Kept joined_at group
  joined-kept group before after =
      go (of before) (of (all_entries group))
      (items_kept joined_item group (λ b a j js h i q. joined_middle b j js a h) before after)
    where
      go : (b l : List Entry) → joined_item (items (b ++ (held (joined_at l) ++ of after))) ≡ joined_item (items (b ++ (l ++ of after)))
          → joined_at (b ++ (held (joined_at l) ++ of after)) ≡ joined_at (b ++ (l ++ of after))
      go b [] p = refl
      go [] (e ∷ es) p = ap (λ (i : Item). some (in_section (section_key e) i)) p
      go (d ∷ ds) (e ∷ es) p = ap (λ (i : Item). some (in_section (section_key d) i)) p

  -- whether what they give agrees
  agreeing-kept : {A : Type 0} (same : A → A → Bool) → Same same → (f : Item → Option A)
      → ((i : Item) (is : List Item) → ((j : Item) → Member j (i ∷ is) → item_key i ≡ item_key j) → f (joined_item (i ∷ is)) ≡ given (map f (i ∷ is)))
      → (group : List Report) → agreeing same (map f (items (of (all_entries group)))) ≡ true → Kept (λ l. agreeing same (map f (items l))) group
  agreeing-kept same S f s group g =
      items_kept (λ is. agreeing same (map f is)) group
      (λ b a j js h i q.
      through (agreeing same) f b (j ∷ js) a (joined_item (j ∷ js)) (s j js i)
      (agreeing_middle same S (map f b) (map f (j ∷ js)) (map f a) (ap (λ (is : List Item). agreeing same (map f is)) (sym q) ∙ g)))

  -- what they add up to
  summed_kept : (group : List Report) → Kept (λ l. leb (total (map summed_of (items l))) u64_max) group
  summed_kept group =
      items_kept (λ is. leb (total (map summed_of is)) u64_max) group
      (λ b a j js h i q.
      ap (λ (n : ℕ). leb n u64_max)
      (through total summed_of b (j ∷ js) a (joined_item (j ∷ js)) (joined-sum j js i)
      (total_middle (map summed_of b) (map summed_of (j ∷ js)) (map summed_of a))))

-- ---- reports

-- a test that the items at each key pass alike
tests-alike : (test : List Item → Bool) → test [] ≡ true → (rs qs : List Report) → ((k : Key) → test (items (at rs k)) ≡ test (items (at qs k)))
    → at_each_key test rs ≡ at_each_key test qs
unfolding items_at
tests-alike test t rs qs h = both (at_each_key test rs) (at_each_key test qs) (back rs qs h) (back qs rs (λ k. sym (h k)))
  where
    back : (rs qs : List Report) → ((k : Key) → test (items (at rs k)) ≡ test (items (at qs k))) → at_each_key test rs ≡ true → at_each_key test qs ≡ true
    back rs qs h p = each_all (λ e. test (items_at (entry_key e) qs)) (all_entries qs) (λ e m. sym (h (entry_key e)) ∙ at_each rs test t p (entry_key e))

    both : (a b : Bool) → (a ≡ true → b ≡ true) → (b ≡ true → a ≡ true) → a ≡ b
    both true b f g = sym (f refl)
    both false true f g = g refl
    both false false f g = refl

pub joined_again : (groups : List (List Report)) → joined_report (map joined_report groups) ≡ joined_report (flat groups)
joined_again groups =
    ext entry_key compare_keys keys-order (joined_report (map joined_report groups)) (joined_report (flat groups))
    (joined-sorted (map joined_report groups)) (joined-sorted (flat groups))
    (λ k. joined-found (map joined_report groups) k ∙ at_groups k joined_at groups (λ g m. joined-kept k g) ∙ sym (joined-found (flat groups) k))

agreeing_again : {A : Type 0} (same : A → A → Bool) → Same same → (f : Item → Option A)
    → ((i : Item) (is : List Item) → ((j : Item) → Member j (i ∷ is) → item_key i ≡ item_key j) → f (joined_item (i ∷ is)) ≡ given (map f (i ∷ is)))
    → (groups : List (List Report)) → ((group : List Report) → Member group groups → at_each_key (λ is. agreeing same (map f is)) group ≡ true)
    → at_each_key (λ is. agreeing same (map f is)) (map joined_report groups) ≡ at_each_key (λ is. agreeing same (map f is)) (flat groups)
unfolding agreeing
agreeing_again same S f s groups h =
    tests-alike (λ is. agreeing same (map f is)) refl (map joined_report groups) (flat groups)
    (λ k. at_groups k (λ l. agreeing same (map f (items l))) groups
    (λ g m. agreeing-kept k same S f s g (at_each g (λ is. agreeing same (map f is)) refl (h g m) k)))

pub starts_again : (groups : List (List Report)) → ((group : List Report) → Member group groups → starts_agree group ≡ true)
    → starts_agree (map joined_report groups) ≡ starts_agree (flat groups)
starts_again groups h = agreeing_again eqb number_same start_of joined-start groups h

pub checksums_again : (groups : List (List Report)) → ((group : List Report) → Member group groups → checksums_agree group ≡ true)
    → checksums_agree (map joined_report groups) ≡ checksums_agree (flat groups)
checksums_again groups h = agreeing_again same_bytes bytes_same checksum_of joined-checksum groups h

pub sums_again : (groups : List (List Report)) → sums_fit (map joined_report groups) ≡ sums_fit (flat groups)
unfolding total
sums_again groups =
    tests-alike (λ is. leb (total (map summed_of is)) u64_max) refl (map joined_report groups) (flat groups)
    (λ k. at_groups k (λ l. leb (total (map summed_of (items l))) u64_max) groups (λ g m. summed_kept k g))
