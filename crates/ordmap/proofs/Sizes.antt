-- The number of entries never falls, and a map is at least as long as any of whose keys it has all. Assumes nothing.
use mathlib.Core.Path.{◌≡◌, refl, sym, ap, ◌∙◌}
use mathlib.Core.Bool.{cond}
use mathlib.Core.Option.{some, IsSome}
use mathlib.Core.List.{List, [], ◌∷◌, ◌++◌}
use Prim.Native.Nat.{◌≤◌, zero-le, suc-le-suc, Ordering}
use native.Mathlib.Nat.{le_trans}
use native.Mathlib.Omega.{arith}
use lib.Dec.{compare_is_eq}
use lib.ListN.{length}
use Rattle.ordmap.specs.Result.{Result, accepted, refused, bind, map_accepted}
use Rattle.ordmap.specs.Keyed.{by_order, Order, Above, Sorted, find, add, add_all}
use Rattle.ordmap.proofs.Results.{accepted_inj, bind-accepted, map_accepted-accepted}
use Rattle.ordmap.proofs.Maps.{find-above, find_head, above-trans}

module _ {R E K : Type 0} (key : E → K) (cmp : K → K → Ordering) (combine : E → E → Result R E) where
  pub add-length : (e : E) (m n : List E) → add key cmp combine e m ≡ accepted n → length m ≤ length n
  add-length e [] n p = zero-le
  add-length e (x ∷ xs) n p = go (cmp (key e) (key x)) p (λ ys q. add-length e xs ys q)
    where
      go : (o : Ordering)
          → by_order o (accepted (e ∷ x ∷ xs)) (map_accepted (λ y. y ∷ xs) (combine x e)) (map_accepted (λ ys. x ∷ ys) (add key cmp combine e xs)) ≡ accepted n
          → ((ys : List E) → add key cmp combine e xs ≡ accepted ys → length xs ≤ length ys) → length (x ∷ xs) ≤ length n
      go Ordering.lt q ih = omega (arith, ap length (accepted_inj q))
      go Ordering.eq q ih =
          let (y, c, f) = map_accepted-accepted (λ y. y ∷ xs) (combine x e) q in
          omega (arith, ap length f)
      go Ordering.gt q ih =
          let (ys, c, f) = map_accepted-accepted (λ ys. x ∷ ys) (add key cmp combine e xs) q in
          omega (arith, ap length f, ih ys c)

  -- MONOTONE: nothing that is added makes the map shorter
  pub add_all-length : (es m n : List E) → add_all key cmp combine es m ≡ accepted n → length m ≤ length n
  add_all-length [] m n p = omega (arith, ap length (accepted_inj p))
  add_all-length (e ∷ es) m n p =
      let (m', a, q) = bind-accepted (add key cmp combine e m) (λ l. add_all key cmp combine es l) p in
      le_trans (add-length e m m' a) (add_all-length es m' n q)

  -- two runs of entries, one after the other
  pub add_all-append : (es fs m : List E) → add_all key cmp combine (es ++ fs) m ≡ bind (add_all key cmp combine es m) (λ n. add_all key cmp combine fs n)
  add_all-append [] fs m = refl
  add_all-append (e ∷ es) fs m = go (add key cmp combine e m) (λ n. add_all-append es fs n)
    where
      go : (r : Result R (List E))
          → ((n : List E) → add_all key cmp combine (es ++ fs) n ≡ bind (add_all key cmp combine es n) (λ l. add_all key cmp combine fs l))
          → bind r (λ n. add_all key cmp combine (es ++ fs) n) ≡ bind (bind r (λ n. add_all key cmp combine es n)) (λ l. add_all key cmp combine fs l)
      go (accepted n) ih = ih n
      go (refused c) ih = refl

module _ {E K : Type 0} (key : E → K) (cmp : K → K → Ordering) (L : Order cmp) where
  -- what is found past a key has a greater key
  pub found-greater : (j k : K) (l : List E) → Above key cmp j l → IsSome (find key cmp k l) → cmp k j ≡ Ordering.gt
  found-greater j k [] a i = absurd i
  found-greater j k (x ∷ xs) a i = go (cmp k (key x)) refl i (found-greater j k xs a.1)
    where
      go : (o : Ordering) → cmp k (key x) ≡ o → IsSome (cond (compare_is_eq o) (some x) (find key cmp k xs)) → (IsSome (find key cmp k xs) → cmp k j ≡ Ordering.gt)
          → cmp k j ≡ Ordering.gt
      go Ordering.lt o i ih = ih i
      go Ordering.eq o i ih = ap (λ (c : K). cmp c j) (L.equal o) ∙ L.greater a.0
      go Ordering.gt o i ih = ih i

  -- a map whose keys another has all is no longer than that
  pub length_of_keys : (l m : List E) → Sorted key cmp l → Sorted key cmp m → ((k : K) → IsSome (find key cmp k l) → IsSome (find key cmp k m))
      → length l ≤ length m
  length_of_keys [] m s t h = zero-le
  length_of_keys (x ∷ xs) [] s t h = absurd (h (key x) (rw (find_head key cmp L x xs) tt))
  length_of_keys (x ∷ xs) (y ∷ ys) s t h = go (cmp (key x) (key y)) refl (length_of_keys xs ys s.1 t.1) (length_of_keys (x ∷ xs) ys s t.1)
    where
      found : IsSome (find key cmp (key x) (y ∷ ys))
      found = h (key x) (rw (find_head key cmp L x xs) tt)

      go : (o : Ordering) → cmp (key x) (key y) ≡ o
          → (((k : K) → IsSome (find key cmp k xs) → IsSome (find key cmp k ys)) → length xs ≤ length ys)
          → (((k : K) → IsSome (find key cmp k (x ∷ xs)) → IsSome (find key cmp k ys)) → length (x ∷ xs) ≤ length ys)
          → length (x ∷ xs) ≤ length (y ∷ ys)
      go Ordering.lt p q r = absurd (rw (find-above key cmp L (key x) (y ∷ ys) (p, above-trans key cmp L ys p t.0)) at found)
      go Ordering.eq p q r = suc-le-suc (q (λ k i. past k (greater k i) i))
        where
          greater : (k : K) → IsSome (find key cmp k xs) → cmp k (key x) ≡ Ordering.gt
          greater k i = found-greater (key x) k xs s.0 i

          past : (k : K) → cmp k (key x) ≡ Ordering.gt → IsSome (find key cmp k xs) → IsSome (find key cmp k ys)
          past k g i =
              let gy : cmp k (key y) ≡ Ordering.gt = ap (cmp k) (sym (L.equal p)) ∙ g in
              rw gy at (h k (rw g i))
      go Ordering.gt p q r = omega (arith, r (λ k i. past k (greater k i) i))
        where
          less : cmp (key y) (key x) ≡ Ordering.lt
          less = L.less p

          greater : (k : K) → IsSome (find key cmp k (x ∷ xs)) → cmp k (key y) ≡ Ordering.gt
          greater k i = found-greater (key y) k (x ∷ xs) (less, above-trans key cmp L xs less s.0) i

          past : (k : K) → cmp k (key y) ≡ Ordering.gt → IsSome (find key cmp k (x ∷ xs)) → IsSome (find key cmp k ys)
          past k g i = rw g at (h k i)
