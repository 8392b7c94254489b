-- Items of one key joined in groups: a group's joined item, in the group's place, gives what the group gives. Assumes nothing.
use Prim.Native.Nat.{ℕ, ◌+◌, min}
use native.Mathlib.Nat.{add_assoc}
use native.Mathlib.Omega.{arith}
use mathlib.Core.Path.{◌≡◌, refl, sym, ap, ◌∙◌}
use mathlib.Core.Bool.{Bool, true, false, ◌&&◌}
use mathlib.Core.List.Memᴰ.{head as here}
use mathlib.Core.List.Memᴰ.{tail as there}
use mathlib.Core.List.{List, [], ◌∷◌, ◌++◌, map, map-append, Memᴰ as Member}
use mathlib.Core.Option.{Option, none, some}
use Rattle.ordmap.specs.Gathering.{Same}
use Rattle.ordmap.proofs.Results.{impossible}
use Rattle.model.specs.Bytes.{Bytes}
use Rattle.model.specs.Limits.{u64_max}
use Rattle.model.specs.Report.{larger, end_of, Extent, Function, updated, given_start, extent_of, given_end, Item, section_item, function_item, branch_item, line_item, item_key, start_of, taken_of, checksum_of, count_of}
use Rattle.model.specs.Joined.{extent_from, largest, given, all_agree, agreeing, total, add_given, total_given, joined_as, joined_item, summed_of}
use Rattle.model.proofs.Items.{larger_assoc, or_zero}
use Rattle.model.proofs.Entries.{by_key}

-- ---- given or none

module _ {A : Type 0} where
  pub given_middle : (os ps qs : List (Option A)) → given (os ++ (given ps ∷ qs)) ≡ given (os ++ (ps ++ qs))
  unfolding given
  given_middle [] [] qs = refl
  given_middle [] (none ∷ ps) qs = given_middle [] ps qs
  given_middle [] (some a ∷ ps) qs = refl
  given_middle (none ∷ os) ps qs = given_middle os ps qs
  given_middle (some a ∷ os) ps qs = refl

module _ {A : Type 0} (same : A → A → Bool) (S : Same same) where
  all_agree-append : (a : A) (ps qs : List (Option A)) → all_agree same a ps ≡ true → all_agree same a (ps ++ qs) ≡ all_agree same a qs
  unfolding all_agree
  all_agree-append a [] qs h = refl
  all_agree-append a (none ∷ ps) qs h = all_agree-append a ps qs h
  all_agree-append a (some b ∷ ps) qs h = go (same a b) h (λ i. all_agree-append a ps qs i)
    where
      go : (t : Bool) → (t && all_agree same a ps) ≡ true → (all_agree same a ps ≡ true → all_agree same a (ps ++ qs) ≡ all_agree same a qs)
          → (t && all_agree same a (ps ++ qs)) ≡ all_agree same a qs
      go true h ih = ih h
      go false h ih = cc

  all_agree_middle : (a : A) (os ps qs : List (Option A)) → agreeing same ps ≡ true
      → all_agree same a (os ++ (given ps ∷ qs)) ≡ all_agree same a (os ++ (ps ++ qs))
  unfolding all_agree agreeing given
  all_agree_middle a [] [] qs h = refl
  all_agree_middle a [] (none ∷ ps) qs h = all_agree_middle a [] ps qs h
  all_agree_middle a [] (some b ∷ ps) qs h = go (same a b) refl
    where
      go : (t : Bool) → same a b ≡ t → (t && all_agree same a qs) ≡ (t && all_agree same a (ps ++ qs))
      go true e = sym (all_agree-append a ps qs (ap (λ (x : A). all_agree same x ps) (S.same_eq a b e) ∙ h))
      go false e = refl
  all_agree_middle a (none ∷ os) ps qs h = all_agree_middle a os ps qs h
  all_agree_middle a (some b ∷ os) ps qs h = ap (λ (t : Bool). same a b && t) (all_agree_middle a os ps qs h)

  pub agreeing_middle : (os ps qs : List (Option A)) → agreeing same ps ≡ true
      → agreeing same (os ++ (given ps ∷ qs)) ≡ agreeing same (os ++ (ps ++ qs))
  unfolding agreeing given
  agreeing_middle [] [] qs h = refl
  agreeing_middle [] (none ∷ ps) qs h = agreeing_middle [] ps qs h
  agreeing_middle [] (some b ∷ ps) qs h = sym (all_agree-append b ps qs h)
  agreeing_middle (none ∷ os) ps qs h = agreeing_middle os ps qs h
  agreeing_middle (some a ∷ os) ps qs h = all_agree_middle a os ps qs h

-- ---- sums

pub total-append : (ms ns : List ℕ) → total (ms ++ ns) ≡ total ms + total ns
unfolding total
total-append [] ns = omega arith
total-append (m ∷ ms) ns = omega (arith, total-append ms ns)

pub total_middle : (ls ms ns : List ℕ) → total (ls ++ (total ms ∷ ns)) ≡ total (ls ++ (ms ++ ns))
unfolding total
total_middle ls ms ns = omega (arith, total-append ls (total ms ∷ ns), total-append ls (ms ++ ns), total-append ms ns)

held_middle : (ls ms ns : List ℕ) → min (total (ls ++ (min (total ms) u64_max ∷ ns))) u64_max ≡ min (total (ls ++ (ms ++ ns))) u64_max
unfolding total
held_middle ls ms ns = omega (arith, total-append ls (min (total ms) u64_max ∷ ns), total-append ls (ms ++ ns), total-append ms ns)

add_given_assoc : (a b c : Option ℕ) → add_given (add_given a b) c ≡ add_given a (add_given b c)
add_given_assoc none b c = refl
add_given_assoc (some a) none c = refl
add_given_assoc (some a) (some b) none = refl
add_given_assoc (some a) (some b) (some c) = ap (λ (n : ℕ). some n) (add_assoc a b c)

total_given_middle : (ls ms ns : List (Option ℕ)) → total_given (ls ++ (total_given ms ∷ ns)) ≡ total_given (ls ++ (ms ++ ns))
unfolding total_given
total_given_middle [] [] ns = refl
total_given_middle [] (m ∷ ms) ns = add_given_assoc m (total_given ms) (total_given ns) ∙ ap (add_given m) (total_given_middle [] ms ns)
total_given_middle (l ∷ ls) ms ns = ap (add_given l) (total_given_middle ls ms ns)

-- ---- the largest

largest_middle : (ls ms ns : List (Option ℕ)) → largest (ls ++ (largest ms ∷ ns)) ≡ largest (ls ++ (ms ++ ns))
unfolding largest
largest_middle [] [] ns = refl
largest_middle [] (m ∷ ms) ns = larger_assoc m (largest ms) (largest ns) ∙ ap (larger m) (largest_middle [] ms ns)
largest_middle (l ∷ ls) ms ns = ap (larger l) (largest_middle ls ms ns)

-- where no item gives a start, none gives an end
no_ends : (is : List Item) → given (map start_of is) ≡ none → largest (map end_of is) ≡ none
unfolding given largest
no_ends [] h = refl
no_ends (i ∷ is) h = go (extent_of i) h (λ g. no_ends is g)
  where
    go : (x : Option Extent) → given (given_start x ∷ map start_of is) ≡ none → (given (map start_of is) ≡ none → largest (map end_of is) ≡ none)
        → larger (given_end x) (largest (map end_of is)) ≡ none
    go none h ih = ih h
    go (some x) h ih = impossible cc

-- what an extent made of the items gives
extent-start : (s e : Option ℕ) → given_start (extent_from s e) ≡ s
extent-start none e = refl
extent-start (some s) e = refl

extent-end : (s e : Option ℕ) → (s ≡ none → e ≡ none) → given_end (extent_from s e) ≡ e
extent-end none e h = sym (h refl)
extent-end (some s) e h = refl

-- ---- joined items

-- a value of a list, in which one element's stands for a group's
pub through : {A B C : Type 0} (h : List B → C) (f : A → B) (xs ys zs : List A) (x : A) {y : B} → f x ≡ y
    → h (map f xs ++ (y ∷ map f zs)) ≡ h (map f xs ++ (map f ys ++ map f zs)) → h (map f (xs ++ (x ∷ zs))) ≡ h (map f (xs ++ (ys ++ zs)))
through {B} h f xs ys zs x e p =
    ap h (map-append f xs (x ∷ zs))
    ∙ ap (λ (z : B). h (map f xs ++ (z ∷ map f zs))) e
    ∙ p
    ∙ ap (λ (l : List B). h (map f xs ++ l)) (sym (map-append f ys zs))
    ∙ ap h (sym (map-append f xs (ys ++ zs)))

joined_as_middle : (i j : Item) → item_key i ≡ item_key j → (is js ks : List Item)
    → joined_as i (is ++ (joined_as j js ∷ ks)) ≡ joined_as i (is ++ (js ++ ks))
unfolding joined_as extent_of taken_of checksum_of count_of
joined_as_middle i j e is js ks =
    by_key (λ i j. joined_as i (is ++ (joined_as j js ∷ ks)) ≡ joined_as i (is ++ (js ++ ks)))
    (λ p q. refl) functions branches lines i j e
  where
    functions : (f g : Function) → f.name ≡ g.name
        → joined_as (function_item f) (is ++ (joined_as (function_item g) js ∷ ks)) ≡ joined_as (function_item f) (is ++ (js ++ ks))
    functions f g e =
        let x : Item = joined_as (function_item g) js in
        let p : given (map start_of (is ++ (x ∷ ks))) ≡ given (map start_of (is ++ (js ++ ks))) =
        through given start_of is js ks x (extent-start _ _) (given_middle (map start_of is) (map start_of js) (map start_of ks)) in
        let q : largest (map end_of (is ++ (x ∷ ks))) ≡ largest (map end_of (is ++ (js ++ ks))) =
        through largest end_of is js ks x (extent-end _ _ (no_ends js)) (largest_middle (map end_of is) (map end_of js) (map end_of ks)) in
        let n : min (total (map count_of (is ++ (x ∷ ks)))) u64_max ≡ min (total (map count_of (is ++ (js ++ ks)))) u64_max =
        through (λ (l : List ℕ). min (total l) u64_max) count_of is js ks x refl (held_middle (map count_of is) (map count_of js) (map count_of ks)) in
        λ k. function_item (updated f (extent_from (p k) (q k)) (n k))

    branches : (line block branch : ℕ) (s t : Option ℕ)
        → joined_as (branch_item line block branch s) (is ++ (joined_as (branch_item line block branch t) js ∷ ks))
        ≡ joined_as (branch_item line block branch s) (is ++ (js ++ ks))
    branches line block branch s t =
        ap (branch_item line block branch)
        (through total_given taken_of is js ks (joined_as (branch_item line block branch t) js) refl
        (total_given_middle (map taken_of is) (map taken_of js) (map taken_of ks)))

    lines : (line c d : ℕ) (s t : Option Bytes)
        → joined_as (line_item line c s) (is ++ (joined_as (line_item line d t) js ∷ ks)) ≡ joined_as (line_item line c s) (is ++ (js ++ ks))
    lines line c d s t =
        let x : Item = joined_as (line_item line d t) js in
        let n : total (map count_of (is ++ (x ∷ ks))) ≡ total (map count_of (is ++ (js ++ ks))) =
        through total count_of is js ks x refl (total_middle (map count_of is) (map count_of js) (map count_of ks)) in
        let p : given (map checksum_of (is ++ (x ∷ ks))) ≡ given (map checksum_of (is ++ (js ++ ks))) =
        through given checksum_of is js ks x refl (given_middle (map checksum_of is) (map checksum_of js) (map checksum_of ks)) in
        λ k. line_item line (n k) (p k)

-- the kind and key of a joined item are those of the first
joined_as-first : (i : Item) (is js : List Item) → joined_as (joined_as i is) js ≡ joined_as i js
unfolding joined_as
joined_as-first (section_item spelling) is js = refl
joined_as-first (function_item f) is js = refl
joined_as-first (branch_item line block branch taken) is js = refl
joined_as-first (line_item line count checksum) is js = refl

-- GROUP: its joined item, in its place
pub joined_middle : (is : List Item) (j : Item) (js ks : List Item) → ((i : Item) → Member i is → item_key i ≡ item_key j)
    → joined_item (is ++ (joined_item (j ∷ js) ∷ ks)) ≡ joined_item (is ++ (j ∷ (js ++ ks)))
unfolding joined_item
joined_middle [] j js ks h = joined_as-first j (j ∷ js) (joined_as j (j ∷ js) ∷ ks) ∙ joined_as_middle j j refl [] (j ∷ js) ks
joined_middle (i ∷ is) j js ks h = joined_as_middle i j (h i (here refl)) (i ∷ is) (j ∷ js) ks

-- ---- what a joined item gives

-- what an item of the first one's kind does not have, and what it counts for in a sum
abbrev Kin : Item → Item → Type 0
Kin (section_item spelling) j = (start_of j ≡ none) × (checksum_of j ≡ none) × (summed_of j ≡ 0)
Kin (function_item f) j = (checksum_of j ≡ none) × (summed_of j ≡ 0)
Kin (branch_item line block branch taken) j = (start_of j ≡ none) × (checksum_of j ≡ none) × (summed_of j ≡ or_zero (taken_of j))
Kin (line_item line count checksum) j = (start_of j ≡ none) × (summed_of j ≡ count_of j)

branch-summed : (line block branch : ℕ) (t : Option ℕ) → summed_of (branch_item line block branch t) ≡ or_zero t
unfolding summed_of count_of
branch-summed line block branch none = refl
branch-summed line block branch (some t) = refl

kin : (i j : Item) → item_key i ≡ item_key j → Kin i j
unfolding extent_of taken_of checksum_of summed_of count_of
kin i j e =
    by_key Kin (λ p q. (refl, refl, refl)) (λ f g h. (refl, refl)) (λ line block branch s t. (refl, refl, branch-summed line block branch t))
    (λ line c d s t. (refl, refl)) i j e

given-none : {A : Type 0} (f : Item → Option A) (is : List Item) → ((j : Item) → Member j is → f j ≡ none) → none ≡ given (map f is)
unfolding given
given-none f [] h = refl
given-none f (i ∷ is) h = rw (h i (here refl)) (given-none f is (λ j m. h j (there m)))

total-zero : (f : Item → ℕ) (is : List Item) → ((j : Item) → Member j is → f j ≡ 0) → 0 ≡ total (map f is)
unfolding total
total-zero f [] h = refl
total-zero f (i ∷ is) h = omega (arith, h i (here refl), total-zero f is (λ j m. h j (there m)))

total-same : (f g : Item → ℕ) (is : List Item) → ((j : Item) → Member j is → f j ≡ g j) → total (map g is) ≡ total (map f is)
unfolding total
total-same f g [] h = refl
total-same f g (i ∷ is) h = omega (arith, h i (here refl), total-same f g is (λ j m. h j (there m)))

or_zero_add : (a b : Option ℕ) → or_zero (add_given a b) ≡ or_zero a + or_zero b
or_zero_add none b = omega arith
or_zero_add (some a) none = omega arith
or_zero_add (some a) (some b) = refl

or_zero_total : (f : Item → Option ℕ) (is : List Item) → or_zero (total_given (map f is)) ≡ total (map (λ i. or_zero (f i)) is)
unfolding total total_given
or_zero_total f [] = refl
or_zero_total f (i ∷ is) = omega (arith, or_zero_add (f i) (total_given (map f is)), or_zero_total f is)

-- items of one key: the joined item gives the start and the checksum that they give, and counts for what they count for
module _ (first : Item) (rest : List Item) (h : (j : Item) → Member j (first ∷ rest) → item_key first ≡ item_key j) where
  abbrev is : List Item
  is = first ∷ rest

  each : (j : Item) → Member j is → Kin first j
  each j m = kin first j (h j m)

  pub joined-start : start_of (joined_item is) ≡ given (map start_of is)
  unfolding joined_item joined_as extent_of
  joined-start = go first each
    where
      go : (i : Item) → ((j : Item) → Member j is → Kin i j) → start_of (joined_as i is) ≡ given (map start_of is)
      go (section_item spelling) k = given-none start_of is (λ j m. (k j m).0)
      go (function_item f) k = extent-start _ _
      go (branch_item line block branch taken) k = given-none start_of is (λ j m. (k j m).0)
      go (line_item line count checksum) k = given-none start_of is (λ j m. (k j m).0)

  pub joined-checksum : checksum_of (joined_item is) ≡ given (map checksum_of is)
  unfolding joined_item joined_as checksum_of
  joined-checksum = go first each
    where
      go : (i : Item) → ((j : Item) → Member j is → Kin i j) → checksum_of (joined_as i is) ≡ given (map checksum_of is)
      go (section_item spelling) k = given-none checksum_of is (λ j m. (k j m).1)
      go (function_item f) k = given-none checksum_of is (λ j m. (k j m).0)
      go (branch_item line block branch taken) k = given-none checksum_of is (λ j m. (k j m).1)
      go (line_item line count checksum) k = refl

  pub joined-sum : summed_of (joined_item is) ≡ total (map summed_of is)
  unfolding joined_item joined_as summed_of
  joined-sum = go first each
    where
      go : (i : Item) → ((j : Item) → Member j is → Kin i j) → summed_of (joined_as i is) ≡ total (map summed_of is)
      go (section_item spelling) k = total-zero summed_of is (λ j m. (k j m).2)
      go (function_item f) k = total-zero summed_of is (λ j m. (k j m).1)
      go (branch_item line block branch taken) k =
          branch-summed line block branch (total_given (map taken_of is))
          ∙ or_zero_total taken_of is
          ∙ total-same summed_of (λ j. or_zero (taken_of j)) is (λ j m. (k j m).2)
      go (line_item line count checksum) k = total-same summed_of count_of is (λ j m. (k j m).1)
