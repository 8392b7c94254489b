-- Laws of adding entries to a map: the result stays sorted, and key by key it is what the entries of that key make in order.
-- Assumes nothing.
use mathlib.Core.Path.{◌≡◌, refl, sym, ap, ◌∙◌}
use mathlib.Core.Logic.{◌⊎◌, inl, inr}
use mathlib.Core.Bool.{Bool, true, false, cond}
use mathlib.Core.Option.{Option, some}
use mathlib.Core.List.{List, [], ◌∷◌}
use Prim.Native.Nat.{Ordering}
use lib.Dec.{compare_is_eq}
use Rattle.ordmap.specs.Result.{Result, accepted, refused, bind, map_accepted, IsAccepted}
use Rattle.ordmap.specs.Keyed.{by_order, Order, Above, Sorted, find, with_key, step, join_all, add, add_all, Keyed}
use Rattle.ordmap.proofs.Results.{accepted_inj, not_accepted, not_refused, accepted_or_refused, bind-accepted, bind-refused, map_accepted-accepted, map_accepted-refused}
use Rattle.ordmap.proofs.Maps.{find-above, above-trans, keys-equal}

-- entries that go on after a step that gave what is held
joined : {R E : Type 0} (combine : E → E → Result R E) (es : List E) (r : Result R E) {held : Option E} → map_accepted some r ≡ accepted held
    → bind r (λ y. join_all combine (some y) es) ≡ join_all combine held es
joined combine es (accepted y) p = ap (λ h. join_all combine h es) (accepted_inj p)
joined combine es (refused n) p = absurd (not_accepted p)

module _ {R E K : Type 0} (key : E → K) (cmp : K → K → Ordering) (combine : E → E → Result R E) (L : Order cmp)
    (C : Keyed key cmp combine) where
  pub add-above : (k : K) (e : E) (m n : List E) → cmp k (key e) ≡ Ordering.lt → Above key cmp k m → add key cmp combine e m ≡ accepted n → Above key cmp k n
  add-above k e [] n h a p = rw (← (accepted_inj p)) (h, tt)
  add-above k e (x ∷ xs) n h a p = go (cmp (key e) (key x)) refl p (λ ys q. add-above k e xs ys h a.1 q)
    where
      go : (o : Ordering) → cmp (key e) (key x) ≡ o
          → by_order o (accepted (e ∷ x ∷ xs)) (map_accepted (λ y. y ∷ xs) (combine x e)) (map_accepted (λ ys. x ∷ ys) (add key cmp combine e xs)) ≡ accepted n
          → ((ys : List E) → add key cmp combine e xs ≡ accepted ys → Above key cmp k ys) → Above key cmp k n
      go Ordering.lt o q r = rw (← (accepted_inj q)) (h, a)
      go Ordering.eq o q r =
          let (y, c, f) = map_accepted-accepted (λ y. y ∷ xs) (combine x e) q in
          rw (← f) (ap (cmp k) (C.keeps (sym (L.equal o)) c) ∙ a.0, a.1)
      go Ordering.gt o q r =
          let (ys, c, f) = map_accepted-accepted (λ ys. x ∷ ys) (add key cmp combine e xs) q in
          rw (← f) (a.0, r ys c)

  -- the result of an addition is sorted
  pub add-sorted : (e : E) (m n : List E) → Sorted key cmp m → add key cmp combine e m ≡ accepted n → Sorted key cmp n
  add-sorted e [] n s p = rw (← (accepted_inj p)) (tt, tt)
  add-sorted e (x ∷ xs) n s p = go (cmp (key e) (key x)) refl p (λ ys q. add-sorted e xs ys s.1 q)
    where
      go : (o : Ordering) → cmp (key e) (key x) ≡ o
          → by_order o (accepted (e ∷ x ∷ xs)) (map_accepted (λ y. y ∷ xs) (combine x e)) (map_accepted (λ ys. x ∷ ys) (add key cmp combine e xs)) ≡ accepted n
          → ((ys : List E) → add key cmp combine e xs ≡ accepted ys → Sorted key cmp ys) → Sorted key cmp n
      go Ordering.lt o q r = rw (← (accepted_inj q)) ((o, above-trans key cmp L xs o s.0), s)
      go Ordering.eq o q r =
          let (y, c, f) = map_accepted-accepted (λ y. y ∷ xs) (combine x e) q in
          let ky : key y ≡ key x = C.keeps (sym (L.equal o)) c in
          rw (← f) (rw ky s.0, s.1)
      go Ordering.gt o q r =
          let (ys, c, f) = map_accepted-accepted (λ ys. x ∷ ys) (add key cmp combine e xs) q in
          rw (← f) (add-above (key x) e xs ys (L.less o) s.0 c, r ys c)

  -- what is found at the entry's own key, refusals included
  pub add-found : (e : E) (m : List E) → Sorted key cmp m
      → map_accepted (find key cmp (key e)) (add key cmp combine e m) ≡ map_accepted some (step combine (find key cmp (key e) m) e)
  add-found e [] s = rw L.same
  add-found e (x ∷ xs) s = go (cmp (key e) (key x)) refl (add-found e xs s.1)
    where
      go : (o : Ordering) → cmp (key e) (key x) ≡ o
          → map_accepted (find key cmp (key e)) (add key cmp combine e xs) ≡ map_accepted some (step combine (find key cmp (key e) xs) e)
          → map_accepted (find key cmp (key e))
          (by_order o (accepted (e ∷ x ∷ xs)) (map_accepted (λ y. y ∷ xs) (combine x e)) (map_accepted (λ ys. x ∷ ys) (add key cmp combine e xs)))
          ≡ map_accepted some (step combine (cond (compare_is_eq o) (some x) (find key cmp (key e) xs)) e)
      go Ordering.lt o ih = rw (L.same (key e), find-above key cmp L (key e) xs (above-trans key cmp L xs o s.0))
      go Ordering.eq o ih = at (combine x e) refl
        where
          at : (r : Result R E) → combine x e ≡ r → map_accepted (find key cmp (key e)) (map_accepted (λ y. y ∷ xs) r) ≡ map_accepted some r
          at (accepted y) c =
              let ky : cmp (key e) (key y) ≡ Ordering.eq = ap (cmp (key e)) (C.keeps (sym (L.equal o)) c) ∙ o in
              rw ky
          at (refused n) c = refl
      go Ordering.gt o ih = past (add key cmp combine e xs) ih
        where
          past : (r : Result R (List E)) → map_accepted (find key cmp (key e)) r ≡ map_accepted some (step combine (find key cmp (key e) xs) e)
              → map_accepted (find key cmp (key e)) (map_accepted (λ ys. x ∷ ys) r) ≡ map_accepted some (step combine (find key cmp (key e) xs) e)
          past (accepted ys) q = rw o q
          past (refused n) q = q

  -- what is found at another key stays
  pub add-other : (k : K) (e : E) (m n : List E) → compare_is_eq (cmp k (key e)) ≡ false → add key cmp combine e m ≡ accepted n
      → find key cmp k n ≡ find key cmp k m
  add-other k e [] n h p = rw (← (accepted_inj p)) (rw h)
  add-other k e (x ∷ xs) n h p = go (cmp (key e) (key x)) refl p (λ ys q. add-other k e xs ys h q)
    where
      go : (o : Ordering) → cmp (key e) (key x) ≡ o
          → by_order o (accepted (e ∷ x ∷ xs)) (map_accepted (λ y. y ∷ xs) (combine x e)) (map_accepted (λ ys. x ∷ ys) (add key cmp combine e xs)) ≡ accepted n
          → ((ys : List E) → add key cmp combine e xs ≡ accepted ys → find key cmp k ys ≡ find key cmp k xs)
          → find key cmp k n ≡ find key cmp k (x ∷ xs)
      go Ordering.lt o q r = rw (← (accepted_inj q)) (rw h)
      go Ordering.eq o q r =
          let (y, c, f) = map_accepted-accepted (λ y. y ∷ xs) (combine x e) q in
          let ex : key e ≡ key x = L.equal o in
          let hx : compare_is_eq (cmp k (key x)) ≡ false = rw (← ex) h in
          let hy : compare_is_eq (cmp k (key y)) ≡ false = rw (C.keeps (sym ex) c) hx in
          rw (← f) (rw (hx, hy))
      go Ordering.gt o q r =
          let (ys, c, f) = map_accepted-accepted (λ ys. x ∷ ys) (add key cmp combine e xs) q in
          rw (← f) (rw (r ys c))

  -- ADDED ONE: where what is held at the entry's key takes the entry, the addition is accepted, and at that key holds what they make
  pub add-accepted : (e : E) (m : List E) {y : E} → Sorted key cmp m → step combine (find key cmp (key e) m) e ≡ accepted y
      → (n : List E) × (add key cmp combine e m ≡ accepted n) × Sorted key cmp n
      × ((k : K) → find key cmp k n ≡ cond (compare_is_eq (cmp k (key e))) (some y) (find key cmp k m))
  add-accepted e m {y} s h =
      let (n, p, f) = map_accepted-accepted (find key cmp (key e)) (add key cmp combine e m) (add-found e m s ∙ ap (map_accepted some) h) in
      (n, p, add-sorted e m n s p, λ k. go n p f k (compare_is_eq (cmp k (key e))) refl)
    where
      go : (n : List E) → add key cmp combine e m ≡ accepted n → find key cmp (key e) n ≡ some y → (k : K) (b : Bool) → compare_is_eq (cmp k (key e)) ≡ b
          → find key cmp k n ≡ cond b (some y) (find key cmp k m)
      go n p f k true q = ap (λ (j : K). find key cmp j n) (keys-equal key cmp L q) ∙ f
      go n p f k false q = add-other k e m n q p

  -- an addition takes its entry from those still to be joined, at every key
  add_join : (k : K) (e : E) (es m n : List E) → Sorted key cmp m → add key cmp combine e m ≡ accepted n
      → join_all combine (find key cmp k m) (with_key key cmp k (e ∷ es)) ≡ join_all combine (find key cmp k n) (with_key key cmp k es)
  add_join k e es m n s p = go (cmp k (key e)) refl
    where
      other : compare_is_eq (cmp k (key e)) ≡ false
          → join_all combine (find key cmp k m) (with_key key cmp k es) ≡ join_all combine (find key cmp k n) (with_key key cmp k es)
      other h = rw (add-other k e m n h p)

      go : (o : Ordering) → cmp k (key e) ≡ o
          → join_all combine (find key cmp k m) (cond (compare_is_eq o) (e ∷ with_key key cmp k es) (with_key key cmp k es)) ≡ join_all combine (find key cmp k n) (with_key key cmp k es)
      go Ordering.lt o = other (rw o)
      go Ordering.gt o = other (rw o)
      go Ordering.eq o =
          let ke : k ≡ key e = L.equal o in
          let f : map_accepted some (step combine (find key cmp k m) e) ≡ accepted (find key cmp k n) = rw ke (sym (add-found e m s) ∙ rw p) in
          joined combine (with_key key cmp k es) (step combine (find key cmp k m) e) f

  pub add_all-sorted : (es m n : List E) → Sorted key cmp m → add_all key cmp combine es m ≡ accepted n → Sorted key cmp n
  add_all-sorted [] m n s p = rw (← (accepted_inj p)) s
  add_all-sorted (e ∷ es) m n s p =
      let (m', a, q) = bind-accepted (add key cmp combine e m) (λ n. add_all key cmp combine es n) p in
      add_all-sorted es m' n (add-sorted e m m' s a) q

  -- ADDED: at every key the result holds what the entries of that key make in order, after what was held
  pub add_all-found : (es m n : List E) → Sorted key cmp m → add_all key cmp combine es m ≡ accepted n
      → (k : K) → join_all combine (find key cmp k m) (with_key key cmp k es) ≡ accepted (find key cmp k n)
  add_all-found [] m n s p k = ap (λ (l : List E). accepted (find key cmp k l)) (accepted_inj p)
  add_all-found (e ∷ es) m n s p k =
      let (m', a, q) = bind-accepted (add key cmp combine e m) (λ n. add_all key cmp combine es n) p in
      add_join k e es m m' s a ∙ add_all-found es m' n (add-sorted e m m' s a) q k

  -- REFUSED: at some key the entries of that key refuse, with the same number
  pub add_all-refused : (es m : List E) {c : R} → Sorted key cmp m → add_all key cmp combine es m ≡ refused c
      → (k : K) × (join_all combine (find key cmp k m) (with_key key cmp k es) ≡ refused c)
  add_all-refused [] m s p = absurd (not_refused p)
  add_all-refused (e ∷ es) m {c} s p = go (bind-refused (add key cmp combine e m) (λ n. add_all key cmp combine es n) p) (λ n t q. add_all-refused es n t q)
    where
      go : (add key cmp combine e m ≡ refused c) ⊎ ((n : List E) × (add key cmp combine e m ≡ accepted n) × (add_all key cmp combine es n ≡ refused c))
          → ((n : List E) → Sorted key cmp n → add_all key cmp combine es n ≡ refused c → (k : K) × (join_all combine (find key cmp k n) (with_key key cmp k es) ≡ refused c))
          → (k : K) × (join_all combine (find key cmp k m) (with_key key cmp k (e ∷ es)) ≡ refused c)
      go (inl a) ih =
          let f : map_accepted some (step combine (find key cmp (key e) m) e) ≡ refused c = sym (add-found e m s) ∙ rw a in
          (key e, rw (L.same (key e), map_accepted-refused some (step combine (find key cmp (key e) m) e) f))
      go (inr (n, a, q)) ih =
          let (k, r) = ih n (add-sorted e m n s a) q in
          (k, add_join k e es m n s a ∙ r)

  -- so entries are accepted exactly when those of each key are
  pub add_all-accepted : (es m : List E) → Sorted key cmp m → ((k : K) → IsAccepted (join_all combine (find key cmp k m) (with_key key cmp k es)))
      → (n : List E) × (add_all key cmp combine es m ≡ accepted n)
  add_all-accepted es m s h = go (accepted_or_refused (add_all key cmp combine es m))
    where
      go : ((n : List E) × (add_all key cmp combine es m ≡ accepted n)) ⊎ ((c : R) × (add_all key cmp combine es m ≡ refused c))
          → (n : List E) × (add_all key cmp combine es m ≡ accepted n)
      go (inl a) = a
      go (inr (c, a)) =
          let (k, r) = add_all-refused es m s a in
          absurd (rw r at (h k))

  -- entries past the first leave it
  pub add_all-past : (x : E) (es m : List E) → Above key cmp (key x) es → add_all key cmp combine es (x ∷ m) ≡ map_accepted (λ l. x ∷ l) (add_all key cmp combine es m)
  add_all-past x [] m a = refl
  add_all-past x (e ∷ es) m a = rw (L.greater a.0) (go (add key cmp combine e m) (λ n. add_all-past x es n a.1))
    where
      go : (r : Result R (List E)) → ((n : List E) → add_all key cmp combine es (x ∷ n) ≡ map_accepted (λ l. x ∷ l) (add_all key cmp combine es n))
          → bind (map_accepted (λ l. x ∷ l) r) (λ n. add_all key cmp combine es n) ≡ map_accepted (λ l. x ∷ l) (bind r (λ n. add_all key cmp combine es n))
      go (accepted n) ih = ih n
      go (refused c) ih = refl

  -- a sorted list added to nothing is itself
  pub add_all_empty : (b : List E) → Sorted key cmp b → add_all key cmp combine b [] ≡ accepted b
  add_all_empty [] t = refl
  add_all_empty (y ∷ ys) t = add_all-past y ys [] t.0 ∙ ap (map_accepted (λ l. y ∷ l)) (add_all_empty ys t.1)
