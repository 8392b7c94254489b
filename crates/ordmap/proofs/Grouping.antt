-- Entries added in groups: adding what a group makes alone is adding the group's entries. Assumes nothing.
use mathlib.Core.Path.{◌≡◌, refl, sym, ap, ◌∙◌}
use mathlib.Core.Bool.{cond}
use mathlib.Core.Option.{Option, none, some}
use mathlib.Core.List.Memᴰ.{head as here}
use mathlib.Core.List.Memᴰ.{tail as there}
use mathlib.Core.List.{List, [], ◌∷◌, Memᴰ as Member}
use Prim.Native.Nat.{Ordering}
use lib.Dec.{compare_is_eq}
use Rattle.ordmap.specs.Result.{Result, accepted, bind, value}
use Rattle.ordmap.specs.Keyed.{Order, Above, Sorted, find, with_key, join_all, add_all, Keyed, Grouped}
use Rattle.ordmap.specs.Gathering.{flat}
use Rattle.ordmap.proofs.Results.{accepted_inj, bind-accepted, value-accepted, value_both, value-bind, value-bind-next, bind_assoc}
use Rattle.ordmap.proofs.Maps.{some≢none}
use Rattle.ordmap.proofs.Members.{only_member, find_some}
use Rattle.ordmap.proofs.Adding.{add_all-sorted, add_all-found}
use Rattle.ordmap.proofs.Exact.{add_all-exactly}
use Rattle.ordmap.proofs.Sizes.{add_all-append}

-- the entry that is held, as a list
abbrev pub held : {E : Type 0} → Option E → List E
held none = []
held (some y) = y ∷ []

module _ {E K : Type 0} (key : E → K) (cmp : K → K → Ordering) (L : Order cmp) where
  only_above : (k : K) (l : List E) → Above key cmp k l → with_key key cmp k l ≡ []
  only_above k [] a = refl
  only_above k (x ∷ xs) a = rw a.0 (only_above k xs a.1)

  -- a sorted list has one entry of a key at most: the one that is found
  pub only_sorted : (k : K) (l : List E) → Sorted key cmp l → with_key key cmp k l ≡ held (find key cmp k l)
  only_sorted k [] s = refl
  only_sorted k (x ∷ xs) s = go (cmp k (key x)) refl (only_sorted k xs s.1)
    where
      go : (o : Ordering) → cmp k (key x) ≡ o → with_key key cmp k xs ≡ held (find key cmp k xs)
          → cond (compare_is_eq o) (x ∷ with_key key cmp k xs) (with_key key cmp k xs) ≡ held (cond (compare_is_eq o) (some x) (find key cmp k xs))
      go Ordering.lt o ih = ih
      go Ordering.gt o ih = ih
      go Ordering.eq o ih = ap (λ (l : List E). x ∷ l) (only_above k xs (rw (L.equal o) s.0))

module _ {R E K : Type 0} (key : E → K) (cmp : K → K → Ordering) (combine : E → E → Result R E) (L : Order cmp)
    (C : Keyed key cmp combine) (G : Grouped key cmp combine) where
  -- ---- one key

  -- what is held stays held
  never_none : (e : E) (es : List E) → join_all combine (some e) es ≡ accepted none → ⊥
  never_none e [] p = some≢none (accepted_inj p)
  never_none e (f ∷ fs) p = let (g, c, q) = bind-accepted (combine e f) (λ z. join_all combine (some z) fs) p in never_none g fs q

  -- entries of one key that make y alone: after x they make what y makes
  after-held : (k : K) (x e : E) (es : List E) {y : E} → key x ≡ k → key e ≡ k → ((f : E) → Member f es → key f ≡ k)
      → join_all combine (some e) es ≡ accepted (some y)
      → value (join_all combine (some x) (e ∷ es)) ≡ value (join_all combine (some x) (y ∷ []))
  after-held k x e [] hx he h p = let q : e ≡ _ = some_inj (accepted_inj p) in ap (λ (z : E). value (join_all combine (some x) (z ∷ []))) q
    where
      some_inj : {a b : E} → some a ≡ some b → a ≡ b
      some_inj r = cc
  after-held k x e (f ∷ fs) hx he h p =
      let (g, c, q) = bind-accepted (combine e f) (λ z. join_all combine (some z) fs) p in
      let kg : key g ≡ k = C.keeps (he ∙ sym (h f (here refl))) c ∙ he in
      ap value (sym (bind_assoc (combine x e) (λ z. combine z f) (λ w. join_all combine (some w) fs)))
      ∙ value-bind (bind (combine x e) (λ z. combine z f)) (combine x g) (λ w. join_all combine (some w) fs) (G.regroup x e f (hx ∙ sym he) c)
      ∙ after-held k x g fs hx kg (λ a i. h a (there i)) q

  group-key : (k : K) (before : Option E) (es : List E) (made : Option E) → ((x : E) → before ≡ some x → key x ≡ k) → ((f : E) → Member f es → key f ≡ k)
      → join_all combine none es ≡ accepted made → value (join_all combine before es) ≡ value (join_all combine before (held made))
  group-key k before [] made hb h p = ap (λ (o : Option E). value (join_all combine before (held o))) (accepted_inj p)
  group-key k before (e ∷ es) none hb h p = absurd (never_none e es p)
  group-key k none (e ∷ es) (some y) hb h p = ap value p
  group-key k (some x) (e ∷ es) (some y) hb h p = after-held k x e es (hb x refl) (h e (here refl)) (λ f i. h f (there i)) p

  -- ---- one group

  group-value : (es m j : List E) → Sorted key cmp m → add_all key cmp combine es [] ≡ accepted j
      → value (add_all key cmp combine es m) ≡ value (add_all key cmp combine j m)
  group-value es m j s h = value_both (add_all key cmp combine es m) (add_all key cmp combine j m) to from
    where
      same : (k : K) → value (join_all combine (find key cmp k m) (with_key key cmp k es)) ≡ value (join_all combine (find key cmp k m) (with_key key cmp k j))
      same k =
          group-key k (find key cmp k m) (with_key key cmp k es) (find key cmp k j) (λ x q. (find_some key cmp L k m q).1)
          (λ f i. (only_member key cmp L k es i).1) (add_all-found key cmp combine L C es [] j tt h k)
          ∙ ap (λ (l : List E). value (join_all combine (find key cmp k m) l)) (sym (only_sorted key cmp L k j (add_all-sorted key cmp combine L C es [] j tt h)))

      to : (n : List E) → add_all key cmp combine es m ≡ accepted n → add_all key cmp combine j m ≡ accepted n
      to n p =
          let (t, f) = (add_all-exactly key cmp combine L C es m n s).0 p in
          (add_all-exactly key cmp combine L C j m n s).1
          (t, λ k. value-accepted (join_all combine (find key cmp k m) (with_key key cmp k j)) (sym (same k) ∙ ap value (f k)))

      from : (n : List E) → add_all key cmp combine j m ≡ accepted n → add_all key cmp combine es m ≡ accepted n
      from n p =
          let (t, f) = (add_all-exactly key cmp combine L C j m n s).0 p in
          (add_all-exactly key cmp combine L C es m n s).1
          (t, λ k. value-accepted (join_all combine (find key cmp k m) (with_key key cmp k es)) (same k ∙ ap value (f k)))

  -- ---- groups

  -- each group makes alone the list beside it
  abbrev pub Made : List (List E) → List (List E) → Type 0
  Made [] [] = Unit {0}
  Made [] (j ∷ js) = ⊥
  Made (es ∷ ess) [] = ⊥
  Made (es ∷ ess) (j ∷ js) = (add_all key cmp combine es [] ≡ accepted j) × Made ess js

  -- GROUPS: what they make alone, added one after the other, is what all their entries make
  pub groups_value : (ess js : List (List E)) (m : List E) → Sorted key cmp m → Made ess js
      → value (add_all key cmp combine (flat js) m) ≡ value (add_all key cmp combine (flat ess) m)
  groups_value [] [] m s h = refl
  groups_value [] (j ∷ js) m s h = elim h [ ]
  groups_value (es ∷ ess) [] m s h = elim h [ ]
  groups_value (es ∷ ess) (j ∷ js) m s h =
      ap value (add_all-append key cmp combine j (flat js) m)
      ∙ value-bind (add_all key cmp combine j m) (add_all key cmp combine es m) (λ n. add_all key cmp combine (flat js) n) (sym (group-value es m j s h.0))
      ∙ value-bind-next (add_all key cmp combine es m) (λ n. add_all key cmp combine (flat js) n) (λ n. add_all key cmp combine (flat ess) n)
      (λ n p. groups_value ess js n (add_all-sorted key cmp combine L C es m n s p) h.1)
      ∙ ap value (sym (add_all-append key cmp combine es (flat ess) m))
