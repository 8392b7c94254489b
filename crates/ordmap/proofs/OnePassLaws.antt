-- One pass over two sorted lists gives what adding the second's entries to the first gives, refusals included. Assumes nothing.
use mathlib.Core.Path.{◌≡◌, refl, sym, ap, ◌∙◌}
use mathlib.Core.List.{List, [], ◌∷◌}
use Prim.Native.Nat.{Ordering}
use Rattle.ordmap.specs.Result.{Result, accepted, refused, bind, map_accepted}
use Rattle.ordmap.specs.Keyed.{by_order, Order, Above, Sorted, add_all, Keyed}
use Rattle.ordmap.specs.OnePass.{pass_from, one_pass}
use Rattle.ordmap.proofs.Maps.{above-trans}
use Rattle.ordmap.proofs.Adding.{add_all-past, add_all_empty}

module _ {R E K : Type 0} (key : E → K) (cmp : K → K → Ordering) (combine : E → E → Result R E) (L : Order cmp)
    (C : Keyed key cmp combine) where
  abbrev adds : List E → List E → Result R (List E)
  adds es m = add_all key cmp combine es m

  abbrev passes : List E → List E → Result R (List E)
  passes a b = one_pass key cmp combine a b

  abbrev onto : E → Result R (List E) → Result R (List E)
  onto x r = map_accepted (λ l. x ∷ l) r

  past : (x : E) (es m : List E) → Above key cmp (key x) es → adds es (x ∷ m) ≡ onto x (adds es m)
  past = add_all-past key cmp combine L C

  pass_from_lem : (x : E) (a b : List E) → Sorted key cmp b → ((c : List E) → Sorted key cmp c → passes a c ≡ adds c a)
      → pass_from key cmp combine x a (λ l. passes a l) b ≡ adds b (x ∷ a)
  pass_from_lem x a [] t ih = refl
  pass_from_lem x a (y ∷ ys) t ih = go (cmp (key x) (key y)) refl (pass_from_lem x a ys t.1 ih)
    where
      go : (o : Ordering) → cmp (key x) (key y) ≡ o → pass_from key cmp combine x a (λ l. passes a l) ys ≡ adds ys (x ∷ a)
          → by_order o (onto x (passes a (y ∷ ys))) (bind (combine x y) (λ z. onto z (passes a ys)))
          (onto y (pass_from key cmp combine x a (λ l. passes a l) ys))
          ≡ adds (y ∷ ys) (x ∷ a)
      go Ordering.lt o r = ap (onto x) (ih (y ∷ ys) t) ∙ sym (past x (y ∷ ys) a (o, above-trans key cmp L ys o t.0))
      go Ordering.eq o r =
          let e : key x ≡ key y = L.equal o in
          let p : cmp (key y) (key x) ≡ Ordering.eq = ap (λ (k : K). cmp (key y) k) e ∙ L.same (key y) in
          rw p (meet (combine x y) refl e)
        where
          meet : (z : Result R E) → combine x y ≡ z → key x ≡ key y
              → bind z (λ z. onto z (passes a ys)) ≡ bind (map_accepted (λ z. z ∷ a) z) (λ n. adds ys n)
          meet (accepted z) c e =
              let above : Above key cmp (key z) ys = rw (C.keeps e c ∙ e) t.0 in
              ap (onto z) (ih ys t.1) ∙ sym (past z ys a above)
          meet (refused n) c e = refl
      go Ordering.gt o r = rw (L.less o) (ap (onto y) r ∙ sym (past y ys (x ∷ a) t.0))

  -- ONE PASS is adding one entry after the other
  pub one_pass-adds : (a b : List E) → Sorted key cmp a → Sorted key cmp b → one_pass key cmp combine a b ≡ add_all key cmp combine b a
  one_pass-adds [] b s t = sym (add_all_empty key cmp combine L C b t)
  one_pass-adds (x ∷ a) b s t = pass_from_lem x a b t (λ c u. one_pass-adds a c s.1 u)
