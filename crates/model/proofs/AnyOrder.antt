-- The joined report does not depend on the order of the reports, where each section's path has one spelling. Assumes nothing.
use Prim.Native.Nat.{ℕ, ◌+◌, min, max}
use native.Mathlib.Nat.{add_comm}
use native.Mathlib.Omega.{arith}
use mathlib.Core.Path.{◌≡◌, refl, sym, ap, ◌∙◌}
use mathlib.Core.Bool.{Bool, true}
use mathlib.Core.List.Memᴰ
use mathlib.Core.List.Memᴰ.{head as here}
use mathlib.Core.List.Memᴰ.{tail as there}
use mathlib.Core.List.{List, [], ◌∷◌, map, Memᴰ as Member}
use mathlib.Core.List.Permᴰ.{map as p-map}
use mathlib.Core.List.Permᴰ.{symm as p-symm}
use mathlib.Core.List.{Permᴰ as Perm}
use mathlib.Core.List.Permᴰ.{cons as p-cons}
use mathlib.Core.List.Permᴰ.{nil as p-nil}
use mathlib.Core.List.Permᴰ.{swap as p-swap}
use mathlib.Core.List.Permᴰ.{trans as p-trans}
use mathlib.Core.Option.{Option, none, some}
use lib.Dec.{leb, eqb}
use borrow.Author.Tests.{eqb-true, eq-eqb}
use Rattle.ordmap.proofs.Results.{impossible}
use Rattle.ordmap.specs.Gathering.{Same}
use Rattle.ordmap.proofs.Maps.{ext}
use Rattle.ordmap.proofs.Members.{only_member}
use Rattle.ordmap.proofs.Perms.{perm_member, perm_only, perm_flat}
use Rattle.model.specs.Bytes.{Bytes, same_bytes}
use Rattle.model.specs.Limits.{u64_max}
use Rattle.model.specs.Report.{Function, function_of, updated, Item, section_item, function_item, branch_item, line_item, item_key, Entry, Report, Key, compare_keys, entry_key, start_of, end_of, larger, taken_of, checksum_of, count_of, section_key, in_section}
use Rattle.model.specs.Joined.{
  all_entries,
  items_at,
  given,
  all_agree,
  agreeing,
  total,
  add_given,
  total_given,
  largest,
  extent_from,
  joined_as,
  joined_item,
  joined_report,
  spellings,
  one_spelling,
}
use Rattle.model.proofs.KeyOrder.{keys-order, bytes_same}
use Rattle.model.proofs.Entries.{by_key, items, joined_at}
use Rattle.model.proofs.ListLaws.{and_left, and_right, each_all}
use Rattle.model.proofs.Items.{joinable_as, joinable, joins}
use Rattle.model.proofs.JoinedLaws.{joinable_none, at, at_each, joined-sorted, joined-found}

pub number_same : Same eqb
number_same = record { same_refl = λ n. eq-eqb n n refl; same_eq = eqb-true }

-- ---- given or none

module _ {A : Type 0} where
  pub given_member : (os : List (Option A)) {a : A} → given os ≡ some a → Member (some a) os
  unfolding given
  given_member [] p = impossible cc
  given_member (none ∷ os) p = there (given_member os p)
  given_member (some c ∷ os) p = here (sym p)

  given-none : (os : List (Option A)) {a : A} → given os ≡ none → Member (some a) os → ⊥
  unfolding given
  given-none [] {a = a} p i = elim i [ ]
  given-none (none ∷ os) p (here h) = impossible cc
  given-none (none ∷ os) p (there i) = given-none os p i
  given-none (some c ∷ os) p i = impossible cc

module _ {A : Type 0} (same : A → A → Bool) (S : Same same) where
  all_agree-each : (a : A) (os : List (Option A)) → all_agree same a os ≡ true → (b : A) → Member (some b) os → a ≡ b
  unfolding all_agree
  all_agree-each a [] p b x'' = elim x'' [ ]
  all_agree-each a (none ∷ os) p b (here h) = cc
  all_agree-each a (none ∷ os) p b (there i) = all_agree-each a os p b i
  all_agree-each a (some c ∷ os) p b (here h) = let e : b ≡ c = cc in S.same_eq a c (and_left (same a c) (all_agree same a os) p) ∙ sym e
  all_agree-each a (some c ∷ os) p b (there i) = all_agree-each a os (and_right (same a c) (all_agree same a os) p) b i

  each-all_agree : (a : A) (os : List (Option A)) → ((b : A) → Member (some b) os → a ≡ b) → all_agree same a os ≡ true
  unfolding all_agree
  each-all_agree a [] h = refl
  each-all_agree a (none ∷ os) h = each-all_agree a os (λ b i. h b (there i))
  each-all_agree a (some c ∷ os) h =
      let e : same a c ≡ true = ap (λ (x : A). same a x) (sym (h c (here refl))) ∙ S.same_refl a in
      rw e (each-all_agree a os (λ b i. h b (there i)))

  pub agreeing-each : (os : List (Option A)) → agreeing same os ≡ true → (a b : A) → Member (some a) os → Member (some b) os → a ≡ b
  unfolding agreeing
  agreeing-each [] p a b i j = elim i [ ]
  agreeing-each (none ∷ os) p a b (here h) j = cc
  agreeing-each (none ∷ os) p a b (there i) (here h) = cc
  agreeing-each (none ∷ os) p a b (there i) (there j) = agreeing-each os p a b i j
  agreeing-each (some c ∷ os) p a b i j = sym (each a i) ∙ each b j
    where
      each : (x : A) → Member (some x) (some c ∷ os) → c ≡ x
      each x (here h) = cc
      each x (there i) = all_agree-each c os p x i

  each-agreeing : (os : List (Option A)) → ((a b : A) → Member (some a) os → Member (some b) os → a ≡ b) → agreeing same os ≡ true
  unfolding agreeing
  each-agreeing [] h = refl
  each-agreeing (none ∷ os) h = each-agreeing os (λ a b i j. h a b (there i) (there j))
  each-agreeing (some c ∷ os) h = each-all_agree c os (λ b i. h c b (here refl) (there i))

  pub agreeing_perm : {os ps : List (Option A)} → Perm os ps → agreeing same os ≡ true → agreeing same ps ≡ true
  agreeing_perm {os} {ps} d p =
      each-agreeing ps (λ a b i j. agreeing-each os p a b (perm_member (p-symm d) i) (perm_member (p-symm d) j))

  pub given_perm : {os ps : List (Option A)} → Perm os ps → agreeing same os ≡ true → given os ≡ given ps
  given_perm {os} {ps} d p = go (given os) (given ps) refl refl
    where
      go : (s t : Option A) → given os ≡ s → given ps ≡ t → s ≡ t
      go none none e f = refl
      go none (some b) e f = absurd (given-none os e (perm_member (p-symm d) (given_member ps f)))
      go (some a) none e f = absurd (given-none ps f (perm_member d (given_member os e)))
      go (some a) (some b) e f =
          ap (λ (x : A). some x) (agreeing-each os p a b (given_member os e) (perm_member (p-symm d) (given_member ps f)))

-- ---- sums

pub total_perm : {ms ns : List ℕ} → Perm ms ns → total ms ≡ total ns
unfolding total
total_perm p-nil = refl
total_perm (p-cons e d) = omega (arith, e, total_perm d)
total_perm (p-swap e f) = omega (arith, e, f)
total_perm (p-trans c d) = total_perm c ∙ total_perm d

add_given_swap : (a b t : Option ℕ) → add_given a (add_given b t) ≡ add_given b (add_given a t)
add_given_swap none b t = refl
add_given_swap (some a) none t = refl
add_given_swap (some a) (some b) none = ap (λ (n : ℕ). some n) (add_comm a b)
add_given_swap (some a) (some b) (some n) = let e : a + (b + n) ≡ b + (a + n) = omega arith in ap (λ (n : ℕ). some n) e

total_given_perm : {ms ns : List (Option ℕ)} → Perm ms ns → total_given ms ≡ total_given ns
unfolding total_given
total_given_perm p-nil = refl
total_given_perm (p-cons {a = a} {l₂ = l} e d) = ap (add_given a) (total_given_perm d) ∙ ap (λ (x : Option ℕ). add_given x (total_given l)) e
total_given_perm (p-swap {a = a} {b = b} {l = l} e f) = rw (← e, ← f) (add_given_swap a b (total_given l))
total_given_perm (p-trans c d) = total_given_perm c ∙ total_given_perm d

-- ---- the largest

larger_swap : (a b t : Option ℕ) → larger a (larger b t) ≡ larger b (larger a t)
larger_swap none b t = refl
larger_swap (some a) none t = refl
larger_swap (some a) (some b) none = let e : max a b ≡ max b a = omega arith in ap (λ (n : ℕ). some n) e
larger_swap (some a) (some b) (some n) = let e : max a (max b n) ≡ max b (max a n) = omega arith in ap (λ (n : ℕ). some n) e

largest_perm : {ms ns : List (Option ℕ)} → Perm ms ns → largest ms ≡ largest ns
unfolding largest
largest_perm p-nil = refl
largest_perm (p-cons {a = a} {l₂ = l} e d) = ap (larger a) (largest_perm d) ∙ ap (λ (x : Option ℕ). larger x (largest l)) e
largest_perm (p-swap {a = a} {b = b} {l = l} e f) = rw (← e, ← f) (larger_swap a b (largest l))
largest_perm (p-trans c d) = largest_perm c ∙ largest_perm d

-- ---- items of one key

joinable_as_perm : (i j : Item) {is js : List Item} → item_key i ≡ item_key j → Perm is js → joinable_as i is ≡ true → joinable_as j js ≡ true
unfolding joinable_as
joinable_as_perm i j {is} {js} e d h = by_key (λ i j. joinable_as i is ≡ true → joinable_as j js ≡ true) sections functions branches lines i j e h
  where
    totals : leb (total (map count_of is)) u64_max ≡ true → leb (total (map count_of js)) u64_max ≡ true
    totals h = ap (λ (n : ℕ). leb n u64_max) (sym (total_perm (p-map count_of d))) ∙ h

    sections : (p q : Bytes) → joinable_as (section_item p) is ≡ true → joinable_as (section_item q) js ≡ true
    sections p q h = refl

    functions : (f g : Function) → f.name ≡ g.name → joinable_as (function_item f) is ≡ true → joinable_as (function_item g) js ≡ true
    functions f g q h = agreeing_perm eqb number_same (p-map start_of d) h

    branches : (l b n : ℕ) (s t : Option ℕ) → joinable_as (branch_item l b n s) is ≡ true → joinable_as (branch_item l b n t) js ≡ true
    branches l b n s t h = totals h

    lines : (n c k : ℕ) (s t : Option Bytes) → joinable_as (line_item n c s) is ≡ true → joinable_as (line_item n k t) js ≡ true
    lines n c k s t h =
        let f : agreeing same_bytes (map checksum_of js) ≡ true =
        agreeing_perm same_bytes bytes_same (p-map checksum_of d) (and_left (agreeing same_bytes (map checksum_of is)) (leb (total (map count_of is)) u64_max) h) in
        let g : leb (total (map count_of js)) u64_max ≡ true =
        totals (and_right (agreeing same_bytes (map checksum_of is)) (leb (total (map count_of is)) u64_max) h) in
        rw (f, g)

spellings_member : {p : Bytes} {is : List Item} → Member (section_item p) is → Member (some p) (spellings is)
unfolding spellings
spellings_member {p = p} {is = []} x'' = elim x'' [ ]
spellings_member {p} {is = section_item q ∷ is} (here h) = let e : p ≡ q = cc in here (ap (λ (x : Bytes). some x) e)
spellings_member {p} {is = function_item f ∷ is} (here h) = impossible cc
spellings_member {p} {is = branch_item k b m t ∷ is} (here h) = impossible cc
spellings_member {p} {is = line_item m k t ∷ is} (here h) = impossible cc
spellings_member {is = section_item q ∷ is} (there i) = there (spellings_member i)
spellings_member {is = function_item f ∷ is} (there i) = spellings_member i
spellings_member {is = branch_item k b m t ∷ is} (there i) = spellings_member i
spellings_member {is = line_item m k t ∷ is} (there i) = spellings_member i

joined_as_perm : (i j : Item) {is js : List Item} → item_key i ≡ item_key j → Member i is → Member j is → agreeing same_bytes (spellings is) ≡ true
    → Perm is js → joinable_as i is ≡ true → joined_as i is ≡ joined_as j js
unfolding joinable_as joined_as
joined_as_perm i j {is} {js} e m n o d h = by_key Same_join sections functions branches lines i j e m n h
  where
    Same_join : Item → Item → Type 0
    Same_join i j = Member i is → Member j is → joinable_as i is ≡ true → joined_as i is ≡ joined_as j js

    sections : (p q : Bytes) → Same_join (section_item p) (section_item q)
    sections p q m n h =
        ap (λ (x : Bytes). section_item x) (agreeing-each same_bytes bytes_same (spellings is) o p q (spellings_member m) (spellings_member n))

    functions : (f g : Function) → f.name ≡ g.name → Same_join (function_item f) (function_item g)
    functions f g q m n h =
        ap (λ (u : Option ℕ). function_item (updated f (extent_from u (largest (map end_of is))) (min (total (map count_of is)) u64_max))) (given_perm eqb number_same (p-map start_of d) h)
        ∙ ap (λ (u : Option ℕ). function_item (updated f (extent_from (given (map start_of js)) u) (min (total (map count_of is)) u64_max))) (largest_perm (p-map end_of d))
        ∙ ap (λ (c : ℕ). function_item (updated f (extent_from (given (map start_of js)) (largest (map end_of js))) (min c u64_max))) (total_perm (p-map count_of d))
        ∙ ap (λ (name : Bytes). function_item (function_of name (extent_from (given (map start_of js)) (largest (map end_of js))) (min (total (map count_of js)) u64_max))) q

    branches : (l b n : ℕ) (s t : Option ℕ) → Same_join (branch_item l b n s) (branch_item l b n t)
    branches l b branch s t m n h = ap (λ (u : Option ℕ). branch_item l b branch u) (total_given_perm (p-map taken_of d))

    lines : (n c k : ℕ) (s t : Option Bytes) → Same_join (line_item n c s) (line_item n k t)
    lines line c k s t m n h =
        ap (λ (u : Option Bytes). line_item line (total (map count_of is)) u)
        (given_perm same_bytes bytes_same (p-map checksum_of d) (and_left (agreeing same_bytes (map checksum_of is)) (leb (total (map count_of is)) u64_max) h))
        ∙ ap (λ (c : ℕ). line_item line c (given (map checksum_of js))) (total_perm (p-map count_of d))

-- ---- entries of one key

module _ (k : Key) where
  -- the entries of a key in another order can be joined too, and make the same
  at_perm : (l m : List Entry) → ((e : Entry) → Member e l → entry_key e ≡ k) → agreeing same_bytes (spellings (items l)) ≡ true → Perm l m
      → joinable (items l) ≡ true → (joinable (items m) ≡ true) × (joined_at l ≡ joined_at m)
  unfolding joinable joined_item entry_key
  at_perm [] [] h o d j = (refl, refl)
  at_perm [] (f ∷ m) h o d j = absurd (Memᴰ.not-nil (perm_member (p-symm d) (here refl)))
  at_perm (e ∷ l) [] h o d j = absurd (Memᴰ.not-nil (perm_member d (here refl)))
  at_perm (e ∷ l) (f ∷ m) h o d j = (
    joinable_as_perm e.item f.item (ap (λ (x : Key). x.1) same) (p-map (λ a. a.item) d) j,
    ap (λ (i : Item). some (in_section (section_key e) i)) joined ∙ ap (λ (x : Key). some (in_section x.0 (joined_as f.item (items (f ∷ m))))) same,
  )
    where
      back : Member f (e ∷ l)
      back = perm_member (p-symm d) (here refl)

      same : entry_key e ≡ entry_key f
      same = h e (here refl) ∙ sym (h f back)

      joined : joined_as e.item (items (e ∷ l)) ≡ joined_as f.item (items (f ∷ m))
      joined =
          joined_as_perm e.item f.item (ap (λ (x : Key). x.1) same) (here refl) (Memᴰ.map (λ a. a.item) back) o (p-map (λ a. a.item) d) j

member_spelling : (is : List Item) {p : Bytes} → Member (some p) (spellings is) → Member (section_item p) is
unfolding spellings
member_spelling [] {p = p} i = elim i [ ]
member_spelling (section_item q ∷ is) {p} (here h) = let e : p ≡ q = cc in here (ap (λ (x : Bytes). section_item x) e)
member_spelling (section_item q ∷ is) (there i) = there (member_spelling is i)
member_spelling (function_item f ∷ is) i = there (member_spelling is i)
member_spelling (branch_item k b m t ∷ is) i = there (member_spelling is i)
member_spelling (line_item m k t ∷ is) i = there (member_spelling is i)

no_spelling : agreeing same_bytes (spellings []) ≡ true
unfolding agreeing spellings
no_spelling = refl

-- ---- reports in another order

-- one spelling in one order is one spelling in all
pub order-spelled : (rs qs : List Report) → Perm rs qs → one_spelling rs ≡ true → one_spelling qs ≡ true
unfolding items_at
order-spelled rs qs d o =
    each_all (λ e. agreeing same_bytes (spellings (items (at qs (entry_key e))))) (all_entries qs)
    (λ e i. each-agreeing same_bytes bytes_same (spellings (items (at qs (entry_key e))))
    (λ p q m n. agreeing-each same_bytes bytes_same (spellings (items (at rs (entry_key e))))
    (at_each rs (λ is. agreeing same_bytes (spellings is)) no_spelling o (entry_key e)) p q (back (entry_key e) m) (back (entry_key e) n)))
  where
    back : (k : Key) {p : Bytes} → Member (some p) (spellings (items (at qs k))) → Member (some p) (spellings (items (at rs k)))
    back k m =
        spellings_member
        (perm_member (p-map (λ a. a.item) (perm_only entry_key compare_keys k (perm_flat (p-symm d)))) (member_spelling (items (at qs k)) m))

module _ (rs qs : List Report) (d : Perm rs qs) (o : one_spelling rs ≡ true) (j : joins rs ≡ true) where
  each-key : (k : Key) → (joinable (items (at qs k)) ≡ true) × (joined_at (at rs k) ≡ joined_at (at qs k))
  each-key k =
      at_perm k (at rs k) (at qs k) (λ e i. (only_member entry_key compare_keys keys-order k (all_entries rs) i).1)
      (at_each rs (λ is. agreeing same_bytes (spellings is)) no_spelling o k) (perm_only entry_key compare_keys k (perm_flat d))
      (at_each rs joinable joinable_none j k)

  -- ANY ORDER: joined too, to the same report
  pub order_joinable : joins qs ≡ true
  unfolding items_at
  order_joinable = each_all (λ e. joinable (items_at (entry_key e) qs)) (all_entries qs) (λ e i. (each-key (entry_key e)).0)

  pub order-joined : joined_report rs ≡ joined_report qs
  order-joined =
      ext entry_key compare_keys keys-order (joined_report rs) (joined_report qs) (joined-sorted rs) (joined-sorted qs)
      (λ k. joined-found rs k ∙ (each-key k).1 ∙ sym (joined-found qs k))
