-- Members of a list by key: those of `with_key` and of `find`; lists laid end to end; and lists mapped key by key. Assumes nothing.
use mathlib.Core.Path.{◌≡◌, refl, sym, ap, ◌∙◌}
use mathlib.Core.Logic.{⊎_elim}
use mathlib.Core.Bool.{Bool, true, false, cond}
use mathlib.Core.Option.{none, some, map as mapSome}
use mathlib.Core.List.Memᴰ
use mathlib.Core.List.Memᴰ.{head as here}
use mathlib.Core.List.Memᴰ.{tail as there}
use mathlib.Core.List.{List, [], ◌∷◌, ◌++◌, map, Memᴰ as Member}
use mathlib.Core.List.{append_assoc}
use Prim.Native.Nat.{Ordering}
use lib.Dec.{compare_is_eq}
use Rattle.ordmap.specs.Result.{Result, accepted, map_accepted}
use Rattle.ordmap.specs.Keyed.{by_order, Order, Above, Sorted, find, with_key, add}
use Rattle.ordmap.specs.Gathering.{flat}
use Rattle.ordmap.proofs.Results.{accepted_inj, map_accepted-accepted}
use Rattle.ordmap.proofs.Maps.{some≢none}

module _ {E K : Type 0} (key : E → K) (cmp : K → K → Ordering) where
  pub above_member : {k : K} {a : E} {l : List E} → Above key cmp k l → Member a l → cmp k (key a) ≡ Ordering.lt
  above_member {k} s (here e) = ap (λ (x : E). cmp k (key x)) e ∙ s.0
  above_member s (there i) = above_member s.1 i

module _ {E K : Type 0} (key : E → K) (cmp : K → K → Ordering) (L : Order cmp) where
  -- ---- the entries of a key

  pub only_member : (k : K) (l : List E) {a : E} → Member a (with_key key cmp k l) → Member a l × (key a ≡ k)
  only_member k [] {a = a} i = elim i [ ]
  only_member k (x ∷ xs) {a} i = go (cmp k (key x)) refl i (λ j. only_member k xs j)
    where
      past : Member a xs × (key a ≡ k) → Member a (x ∷ xs) × (key a ≡ k)
      past (i, h) = (there i, h)

      go : (o : Ordering) → cmp k (key x) ≡ o → Member a (cond (compare_is_eq o) (x ∷ with_key key cmp k xs) (with_key key cmp k xs))
          → (Member a (with_key key cmp k xs) → Member a xs × (key a ≡ k)) → Member a (x ∷ xs) × (key a ≡ k)
      go Ordering.lt o i ih = past (ih i)
      go Ordering.gt o i ih = past (ih i)
      go Ordering.eq o (here h) ih = (here h, ap key h ∙ sym (L.equal o))
      go Ordering.eq o (there i) ih = past (ih i)

  pub member_only : {k : K} {a : E} {l : List E} → key a ≡ k → Member a l → Member a (with_key key cmp k l)
  member_only {k} h (here {x = x} {xs = xs} e) =
      let same : cmp k (key x) ≡ Ordering.eq = ap (λ (j : K). cmp k j) (sym (ap key e) ∙ h) ∙ L.same k in
      rw same (here e)
  member_only {k} {a} h (there {x = x} {xs = xs} i) = go (compare_is_eq (cmp k (key x))) (member_only h i)
    where
      go : (b : Bool) → Member a (with_key key cmp k xs) → Member a (cond b (x ∷ with_key key cmp k xs) (with_key key cmp k xs))
      go true j = there j
      go false j = j

  -- ---- the entry of a key

  pub find_some : (k : K) (l : List E) {a : E} → find key cmp k l ≡ some a → Member a l × (key a ≡ k)
  find_some k [] p = absurd (some≢none (sym p))
  find_some k (x ∷ xs) {a} p = go (cmp k (key x)) refl p (λ q. find_some k xs q)
    where
      past : Member a xs × (key a ≡ k) → Member a (x ∷ xs) × (key a ≡ k)
      past (i, h) = (there i, h)

      go : (o : Ordering) → cmp k (key x) ≡ o → cond (compare_is_eq o) (some x) (find key cmp k xs) ≡ some a
          → (find key cmp k xs ≡ some a → Member a xs × (key a ≡ k)) → Member a (x ∷ xs) × (key a ≡ k)
      go Ordering.lt o p ih = past (ih p)
      go Ordering.gt o p ih = past (ih p)
      go Ordering.eq o p ih = let e : x ≡ a = cc in (here (sym e), ap key (sym e) ∙ sym (L.equal o))

  -- a member's key is found
  pub find_none : {k : K} {a : E} {l : List E} → find key cmp k l ≡ none → Member a l → key a ≡ k → ⊥
  find_none {k} {a} p (here {x = x} {xs = xs} e) h =
      let same : cmp k (key x) ≡ Ordering.eq = ap (λ (j : K). cmp k j) (sym (ap key e) ∙ h) ∙ L.same k in
      some≢none (rw same at p)
  find_none {k} {a} p (there {x = x} {xs = xs} i) h = go (compare_is_eq (cmp k (key x))) p (λ q. find_none q i h)
    where
      go : (b : Bool) → cond b (some x) (find key cmp k xs) ≡ none → (find key cmp k xs ≡ none → ⊥) → ⊥
      go true q ih = some≢none q
      go false q ih = ih q

-- ---- lists laid end to end

pub flat_member : {A : Type 0} (ls : List (List A)) {a : A} → Member a (flat ls) → (l : List A) × Member l ls × Member a l
flat_member {A = A} [] {a = a} i = elim i [ ]
flat_member (l ∷ ls) {a} i =
    ⊎_elim (λ (j : Member a l). (l, here refl, j)) (λ (j : Member a (flat ls)). let (m, k, n) = flat_member ls j in (m, there k, n))
    (Memᴰ.append_cases l i)

pub member_flat : {A : Type 0} {l : List A} {ls : List (List A)} {a : A} → Member l ls → Member a l → Member a (flat ls)
member_flat {A = A} {l = l} {ls = []} {a = a} x5 i = elim x5 [ ]
member_flat {ls = x ∷ ls} {a} (here h) i = Memᴰ.append_left (flat ls) (rw h at i)
member_flat {ls = x ∷ ls} (there j) i = Memᴰ.append_right x (member_flat j i)

pub flat_append : {A : Type 0} (ls ms : List (List A)) → flat (ls ++ ms) ≡ flat ls ++ flat ms
flat_append [] ms = refl
flat_append (l ∷ ls) ms = ap (λ r. l ++ r) (flat_append ls ms) ∙ sym (append_assoc l (flat ls) (flat ms))

pub flat-flat : {A : Type 0} (lls : List (List (List A))) → flat (map (λ ls. flat ls) lls) ≡ flat (flat lls)
flat-flat [] = refl
flat-flat (ls ∷ lls) = ap (λ r. flat ls ++ r) (flat-flat lls) ∙ sym (flat_append ls (flat lls))

-- ---- a list changed key by key

module _ {E K : Type 0} (key : E → K) (cmp : K → K → Ordering) (f : E → E) where
  map-above : (k : K) (l : List E) → ((a : E) → Member a l → key (f a) ≡ key a) → Above key cmp k l → Above key cmp k (map f l)
  map-above k [] h s = tt
  map-above k (x ∷ xs) h s = (ap (cmp k) (h x (here refl)) ∙ s.0, map-above k xs (λ a i. h a (there i)) s.1)

  pub map-sorted : (l : List E) → ((a : E) → Member a l → key (f a) ≡ key a) → Sorted key cmp l → Sorted key cmp (map f l)
  map-sorted [] h s = tt
  map-sorted (x ∷ xs) h s = (
    rw (h x (here refl)) (map-above (key x) xs (λ a i. h a (there i)) s.0),
    map-sorted xs (λ a i. h a (there i)) s.1,
  )

  pub find-map : (k : K) (l : List E) → ((a : E) → Member a l → key (f a) ≡ key a) → find key cmp k (map f l) ≡ mapSome f (find key cmp k l)
  find-map k [] h = refl
  find-map k (x ∷ xs) h = rw (h x (here refl)) (go (compare_is_eq (cmp k (key x))) (find-map k xs (λ a i. h a (there i))))
    where
      go : (b : Bool) → find key cmp k (map f xs) ≡ mapSome f (find key cmp k xs)
          → cond b (some (f x)) (find key cmp k (map f xs)) ≡ mapSome f (cond b (some x) (find key cmp k xs))
      go true p = refl
      go false p = p

-- ---- two lists, one after the other

module _ {E K : Type 0} (key : E → K) (cmp : K → K → Ordering) where
  above-append : (k : K) (l m : List E) → Above key cmp k l → Above key cmp k m → Above key cmp k (l ++ m)
  above-append k [] m s t = t
  above-append k (x ∷ l) m s t = (s.0, above-append k l m s.1 t)

  pub above-each : (k : K) (l : List E) → ((a : E) → Member a l → cmp k (key a) ≡ Ordering.lt) → Above key cmp k l
  above-each k [] h = tt
  above-each k (x ∷ l) h = (h x (here refl), above-each k l (λ a i. h a (there i)))

  pub sorted-append : (l m : List E) → Sorted key cmp l → Sorted key cmp m
      → ((a b : E) → Member a l → Member b m → cmp (key a) (key b) ≡ Ordering.lt) → Sorted key cmp (l ++ m)
  sorted-append [] m s t h = t
  sorted-append (x ∷ l) m s t h = (
    above-append (key x) l m s.0 (above-each (key x) m (λ b j. h x b (here refl) j)),
    sorted-append l m s.1 t (λ a b i j. h a b (there i) j),
  )

  pub above-right : (k : K) (l m : List E) → Above key cmp k (l ++ m) → Above key cmp k m
  above-right k [] m s = s
  above-right k (x ∷ l) m s = above-right k l m s.1

  pub sorted-right : (l m : List E) → Sorted key cmp (l ++ m) → Sorted key cmp m
  sorted-right [] m s = s
  sorted-right (x ∷ l) m s = sorted-right l m s.1

-- ---- an entry more

module _ {R E K : Type 0} (key : E → K) (cmp : K → K → Ordering) (combine : E → E → Result R E) (P : E → Type 0) where
  -- what holds of all entries, of the one added, and of what that is combined to, holds of all entries of the result
  pub add-each : (e : E) (m n : List E) → P e → ((x y : E) → P x → combine x e ≡ accepted y → P y) → ((a : E) → Member a m → P a)
      → add key cmp combine e m ≡ accepted n → (a : E) → Member a n → P a
  add-each e [] n p c h q a i = go (rw (← (accepted_inj q)) at i)
    where
      go : Member a (e ∷ []) → P a
      go (here f) = rw f p
      go (there j) = absurd (Memᴰ.not-nil j)
  add-each e (x ∷ xs) n p c h q a i = go (cmp (key e) (key x)) q (λ ys r j. add-each e xs ys p c (λ b k. h b (there k)) r a j)
    where
      front : (y : E) (ys : List E) → P y → (Member a ys → P a) → y ∷ ys ≡ n → P a
      front y ys r s f = at (rw (← f) at i)
        where
          at : Member a (y ∷ ys) → P a
          at (here g) = rw g r
          at (there j) = s j

      go : (o : Ordering)
          → by_order o (accepted (e ∷ x ∷ xs)) (map_accepted (λ y. y ∷ xs) (combine x e)) (map_accepted (λ ys. x ∷ ys) (add key cmp combine e xs)) ≡ accepted n
          → ((ys : List E) → add key cmp combine e xs ≡ accepted ys → Member a ys → P a) → P a
      go Ordering.lt q ih = front e (x ∷ xs) p (λ j. h a j) (accepted_inj q)
      go Ordering.eq q ih =
          let (y, r, f) = map_accepted-accepted (λ y. y ∷ xs) (combine x e) q in
          front y xs (c x y (h x (here refl)) r) (λ j. h a (there j)) f
      go Ordering.gt q ih =
          let (ys, r, f) = map_accepted-accepted (λ ys. x ∷ ys) (add key cmp combine e xs) q in
          front x ys (h x (here refl)) (λ j. ih ys r j) f
