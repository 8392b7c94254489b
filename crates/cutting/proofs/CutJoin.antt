-- Reports joined and then filtered by a test of keys are the reports filtered and then joined. Where reports can be joined, so can they with
-- entries left out, and the joined report is not longer. Assumes nothing.
use Prim.Native.Nat.{◌≤◌, Ordering}
use native.Mathlib.Omega.{arith}
use mathlib.Core.Path.{◌≡◌, refl, sym, ap, ◌∙◌}
use mathlib.Core.Bool.{Bool, true, false, cond}
use mathlib.Core.List.Memᴰ.{head as here}
use mathlib.Core.List.{List, [], ◌∷◌, ◌++◌, map, Memᴰ as Member}
use mathlib.Core.Option.{Option, none, some, IsSome}
use lib.Dec.{compare_is_eq, leb, eqb}
use lib.ListN.{length}
use borrow.Author.Tests.{le-leb, leb-true}
use Rattle.ordmap.specs.Keyed.{Order, find, with_key}
use Rattle.ordmap.specs.Gathering.{flat}
use Rattle.ordmap.proofs.Maps.{ext, keys-equal}
use Rattle.ordmap.proofs.Members.{find_some, only_member}
use Rattle.ordmap.proofs.Sizes.{length_of_keys}
use Rattle.model.specs.declared.Range.{Range}
use Rattle.std.specs.Prelude.{if◌then◌else◌}
use Rattle.model.specs.Lists.{filter}
use Rattle.model.specs.Bytes.{same_bytes}
use Rattle.model.specs.Limits.{u64_max}
use Rattle.model.specs.Report.{Item, item_key, Entry, Report, Key, compare_keys, entry_key, section_key, in_section, start_of, checksum_of}
use Rattle.model.specs.Printing.{is_branch, is_line}
use Rattle.model.specs.Filter.{line_of, is_held}
use Rattle.model.specs.Joined.{all_entries, items_at, agreeing, total, summed_of, joined_item, joined_report}
use Rattle.model.specs.Joined.{at_each_key, starts_agree, checksums_agree, sums_fit}
use Rattle.model.proofs.ListLaws.{All, select_append, select_all, select_none, select_sorted, each_all}
use Rattle.model.proofs.KeyOrder.{keys-order, bytes_same}
use Rattle.model.proofs.AnyOrder.{number_same}
use Rattle.model.proofs.Entries.{items, joined_at, by_key}
use Rattle.model.proofs.JoinedLaws.{at, at_each, joined-sorted, joined-found}
use Rattle.cutting.specs.Cutting.{is_line_or_branch, is_held_line_or_branch, lines_and_branches, held_lines_and_branches}
use Rattle.cutting.proofs.Subs.{Sub, done, keep, leave, sub-map, sub_only, Subs, no_lists, more_lists, sub-flat, sub-agreeing, sub-total}
use Rattle.cutting.proofs.CutItems.{all_of}

-- ---- a test of keys

module _ {E K : Type 0} (key : E → K) (cmp : K → K → Ordering) (L : Order cmp) (test : E → Bool) where
  abbrev keep_if : Option E → Option E
  keep_if none = none
  keep_if (some x) = if test x then some x else none

  only_select : (k : K) (l : List E) → with_key key cmp k (filter test l) ≡ filter test (with_key key cmp k l)
  unfolding filter
  only_select k [] = refl
  only_select k (x ∷ xs) = go (test x) (compare_is_eq (cmp k (key x))) refl refl (only_select k xs)
    where
      go : (t b : Bool) → test x ≡ t → compare_is_eq (cmp k (key x)) ≡ b → with_key key cmp k (filter test xs) ≡ filter test (with_key key cmp k xs)
          → with_key key cmp k (if t then x ∷ filter test xs else filter test xs) ≡ filter test (cond b (x ∷ with_key key cmp k xs) (with_key key cmp k xs))
      go true true p q ih = rw (p, q, filter) (ap (λ (l : List E). x ∷ l) ih)
      go true false p q ih = rw q ih
      go false true p q ih = rw (p, filter) ih
      go false false p q ih = ih

  module _ (keyed : (a b : E) → key a ≡ key b → test a ≡ test b) where
    find_select : (k : K) (l : List E) → find key cmp k (filter test l) ≡ keep_if (find key cmp k l)
    unfolding filter
    find_select k [] = refl
    find_select k (x ∷ xs) = go (test x) (compare_is_eq (cmp k (key x))) refl refl (find_select k xs)
      where
        none_left : test x ≡ false → k ≡ key x → keep_if (find key cmp k xs) ≡ none
        none_left p e = at (find key cmp k xs) refl
          where
            at : (o : Option E) → find key cmp k xs ≡ o → keep_if o ≡ none
            at none q = refl
            at (some y) q =
                let f : test y ≡ false = keyed y x ((find_some key cmp L k xs q).1 ∙ e) ∙ p in
                rw f

        go : (t b : Bool) → test x ≡ t → compare_is_eq (cmp k (key x)) ≡ b → find key cmp k (filter test xs) ≡ keep_if (find key cmp k xs)
            → find key cmp k (if t then x ∷ filter test xs else filter test xs) ≡ keep_if (cond b (some x) (find key cmp k xs))
        go true true p q ih = rw (p, q)
        go true false p q ih = rw q ih
        go false true p q ih = rw p (ih ∙ none_left p (keys-equal key cmp L q))
        go false false p q ih = ih

flat_select : {A : Type 0} (test : A → Bool) (ls : List (List A)) → flat (map (filter test) ls) ≡ filter test (flat ls)
unfolding filter
flat_select test [] = refl
flat_select test (l ∷ ls) = ap (λ r. filter test l ++ r) (flat_select test ls) ∙ sym (select_append test l (flat ls))

module _ (test : Entry → Bool) (keyed : (a b : Entry) → entry_key a ≡ entry_key b → test a ≡ test b) (rs : List Report) where
  -- the entries of a key
  at_select : (k : Key) → at (map (filter test) rs) k ≡ filter test (at rs k)
  at_select k = ap (with_key entry_key compare_keys k) (flat_select test rs) ∙ only_select entry_key compare_keys keys-order test k (flat rs)

  at_found : (k : Key) → keep_if entry_key compare_keys keys-order test (joined_at (at rs k)) ≡ joined_at (filter test (at rs k))
  unfolding filter
  at_found k = go (at rs k) refl
    where
      of_key : (l : List Entry) → at rs k ≡ l → (a : Entry) → Member a l → entry_key a ≡ k
      of_key l q a i = (only_member entry_key compare_keys keys-order k (all_entries rs) {a = a} (rw q i)).1

      made-key : (l : List Entry) → at rs k ≡ l → (x : Entry) → joined_at l ≡ some x → entry_key x ≡ k
      made-key l q x j = (find_some entry_key compare_keys keys-order k (joined_report rs) (joined-found rs k ∙ ap joined_at q ∙ j)).1

      go : (l : List Entry) → at rs k ≡ l → keep_if entry_key compare_keys keys-order test (joined_at l) ≡ joined_at (filter test l)
      go [] q = refl
      go (e ∷ l) q = by (test e) refl
        where
          made : Entry
          made = in_section (section_key e) (joined_item (items (e ∷ l)))

          of_e : (a : Entry) → entry_key a ≡ k → test a ≡ test e
          of_e a h = keyed a e (h ∙ sym (of_key (e ∷ l) q e (here refl)))

          each_same : (t : Bool) → test e ≡ t → All (λ (a : Entry). test a ≡ t) (e ∷ l)
          each_same t p = all_of (λ (a : Entry). test a ≡ t) (e ∷ l) (λ a i. of_e a (of_key (e ∷ l) q a i) ∙ p)

          by : (t : Bool) → test e ≡ t → keep_if entry_key compare_keys keys-order test (joined_at (e ∷ l)) ≡ joined_at (filter test (e ∷ l))
          by true p =
              let m : test made ≡ true = of_e made (made-key (e ∷ l) q made refl) ∙ p in
              ap (λ (t : Bool). if t then some made else none) m ∙ ap joined_at (sym (select_all test (e ∷ l) (each_same true p)))
          by false p =
              let m : test made ≡ false = of_e made (made-key (e ∷ l) q made refl) ∙ p in
              ap (λ (t : Bool). if t then some made else none) m ∙ ap joined_at (sym (select_none test (e ∷ l) (each_same false p)))

  -- JOINED AND CUT by keys
  pub select_joined : filter test (joined_report rs) ≡ joined_report (map (filter test) rs)
  select_joined =
      ext entry_key compare_keys keys-order (filter test (joined_report rs)) (joined_report (map (filter test) rs))
      (select_sorted test entry_key compare_keys (joined_report rs) (joined-sorted rs)) (joined-sorted (map (filter test) rs))
      (λ k. find_select entry_key compare_keys keys-order test keyed k (joined_report rs)
      ∙ ap (keep_if entry_key compare_keys keys-order test) (joined-found rs k)
      ∙ at_found k
      ∙ ap joined_at (sym (at_select k))
      ∙ sym (joined-found (map (filter test) rs) k))

-- ---- lines and branches by key

same_key : (i j : Item) → item_key i ≡ item_key j → (is_line_or_branch i ≡ is_line_or_branch j) × (line_of i ≡ line_of j)
unfolding is_line_or_branch is_branch is_line line_of
same_key i j e =
    by_key (λ i j. (is_line_or_branch i ≡ is_line_or_branch j) × (line_of i ≡ line_of j)) (λ p q. (refl, refl)) (λ a b e. (refl, refl))
    (λ line block branch s t. (refl, refl)) (λ line c d s t. (refl, refl)) i j e

item-keys : (a b : Entry) → entry_key a ≡ entry_key b → item_key a.item ≡ item_key b.item
unfolding entry_key
item-keys a b e = ap (λ (k : Key). k.1) e

line_or_branch_keyed : (a b : Entry) → entry_key a ≡ entry_key b → is_line_or_branch a.item ≡ is_line_or_branch b.item
line_or_branch_keyed a b e = (same_key a.item b.item (item-keys a b e)).0

held_keyed : (ranges : List Range) (a b : Entry) → entry_key a ≡ entry_key b → is_held_line_or_branch ranges a.item ≡ is_held_line_or_branch ranges b.item
unfolding is_held_line_or_branch is_held
held_keyed ranges a b e =
    let (p, q) = same_key a.item b.item (item-keys a b e) in
    rw (p, q)

-- reports that keep of their lines and branches those that are held
pub data CutTo (ranges : List Range) : List Report → List Report → Type 0 where
  no_reports : CutTo ranges [] []
  more_reports : {c r : Report} {cs rs : List Report} → Sub c r → lines_and_branches c ≡ held_lines_and_branches ranges r → CutTo ranges cs rs → CutTo ranges (c ∷ cs) (r ∷ rs)

pub cut_subs : {ranges : List Range} {cs rs : List Report} → CutTo ranges cs rs → Subs cs rs
cut_subs no_reports = no_lists
cut_subs (more_reports s e t) = more_lists s (cut_subs t)

counts_of : {ranges : List Range} {cs rs : List Report} → CutTo ranges cs rs → map lines_and_branches cs ≡ map (held_lines_and_branches ranges) rs
counts_of no_reports = refl
counts_of (more_reports s e t) = λ i. e i ∷ counts_of t i

-- CUT AND JOINED, or joined and cut
pub joined-counts : {ranges : List Range} {cs rs : List Report} → CutTo ranges cs rs → lines_and_branches (joined_report cs) ≡ held_lines_and_branches ranges (joined_report rs)
unfolding lines_and_branches held_lines_and_branches
joined-counts {ranges} {cs} {rs} C =
    select_joined (λ e. is_line_or_branch e.item) line_or_branch_keyed cs
    ∙ ap joined_report (counts_of C)
    ∙ sym (select_joined (λ e. is_held_line_or_branch ranges e.item) (held_keyed ranges) rs)

-- ---- what can be joined

-- a test that a list passes with elements left out
abbrev Inherits : {A : Type 0} → (List A → Bool) → Type 0
Inherits {A} test = (l m : List A) → Sub l m → test m ≡ true → test l ≡ true

at_sub : {cs rs : List Report} (k : Key) → Subs cs rs → Sub (at cs k) (at rs k)
at_sub k S = sub_only entry_key compare_keys k (sub-flat S)

tests_inherit : (test : List Item → Bool) → test [] ≡ true → Inherits test → {cs rs : List Report} → Subs cs rs → at_each_key test rs ≡ true → at_each_key test cs ≡ true
unfolding items_at
tests_inherit test t inherits {cs} {rs} S h =
    each_all (λ e. test (items_at (entry_key e) cs)) (all_entries cs)
    (λ e m. inherits (items (at cs (entry_key e))) (items (at rs (entry_key e))) (sub-map (λ (x : Entry). x.item) (at_sub (entry_key e) S)) (at_each rs test t h (entry_key e)))

some_sub : {l m : List Entry} → Sub l m → IsSome (joined_at l) → IsSome (joined_at m)
some_sub done i = i
some_sub (keep s) i = tt
some_sub (leave s) i = tt

module _ {cs rs : List Report} (S : Subs cs rs) where
  pub cut_starts : starts_agree rs ≡ true → starts_agree cs ≡ true
  unfolding agreeing
  cut_starts h = tests_inherit (λ is. agreeing eqb (map start_of is)) refl (λ l m s q. sub-agreeing eqb number_same (sub-map start_of s) q) S h

  pub cut_checksums : checksums_agree rs ≡ true → checksums_agree cs ≡ true
  unfolding agreeing
  cut_checksums h = tests_inherit (λ is. agreeing same_bytes (map checksum_of is)) refl (λ l m s q. sub-agreeing same_bytes bytes_same (sub-map checksum_of s) q) S h

  pub cut_sums : sums_fit rs ≡ true → sums_fit cs ≡ true
  unfolding total
  cut_sums h = tests_inherit (λ is. leb (total (map summed_of is)) u64_max) refl fits S h
    where
      fits : Inherits (λ (is : List Item). leb (total (map summed_of is)) u64_max)
      fits l m s q =
          le-leb (total (map summed_of l)) u64_max (omega (arith, leb-true (total (map summed_of m)) u64_max q, sub-total (sub-map summed_of s)))

  pub cut_shorter : length (joined_report cs) ≤ length (joined_report rs)
  cut_shorter =
      length_of_keys entry_key compare_keys keys-order (joined_report cs) (joined_report rs) (joined-sorted cs) (joined-sorted rs)
      (λ k i. rw (joined-found rs k) (some_sub (at_sub k S) (rw (joined-found cs k) at i)))
