-- Laws of maps: a sorted list is what `find` says of it. Assumes nothing.
use mathlib.Core.Path.{◌≡◌, refl, sym, ap, ◌∙◌}
use mathlib.Core.Bool.{Bool, true, false}
use mathlib.Core.Option.{none, some}
use mathlib.Core.List.{List, [], ◌∷◌}
use Prim.Native.Nat.{Ordering}
use lib.Dec.{compare_is_eq}
use Rattle.ordmap.proofs.Results.{impossible}
use Rattle.ordmap.specs.Keyed.{Order, Above, Sorted, find}
use Rattle.ordmap.proofs.Orderings.{is_eq}

pub some≢none : {A : Type 0} {a : A} → some a ≡ none → ⊥
some≢none p = impossible cc

module _ {E K : Type 0} (key : E → K) (cmp : K → K → Ordering) (L : Order cmp) where
  -- a key below every entry's is not found
  pub find-above : (k : K) (l : List E) → Above key cmp k l → find key cmp k l ≡ none
  find-above k [] a = refl
  find-above k (x ∷ xs) a = rw a.0 (find-above k xs a.1)

  pub above-trans : {j k : K} (l : List E) → cmp j k ≡ Ordering.lt → Above key cmp k l → Above key cmp j l
  above-trans [] h a = tt
  above-trans (x ∷ xs) h a = (L.trans h a.0, above-trans xs h a.1)

  -- the first entry is found, by its key
  pub find_head : (x : E) (xs : List E) → find key cmp (key x) (x ∷ xs) ≡ some x
  find_head x xs = rw L.same

  -- what is found in the tail follows from what is found in the whole
  tail_from : (k : K) (x : E) (xs : List E) (y : E) (ys : List E) → key x ≡ key y → Sorted key cmp (x ∷ xs) → Sorted key cmp (y ∷ ys)
      → find key cmp k (x ∷ xs) ≡ find key cmp k (y ∷ ys) → find key cmp k xs ≡ find key cmp k ys
  tail_from k x xs y ys e s t h = go (cmp k (key x)) refl
    where
      go : (o : Ordering) → cmp k (key x) ≡ o → find key cmp k xs ≡ find key cmp k ys
      go Ordering.lt p =
          let q : cmp k (key y) ≡ Ordering.lt = ap (λ (j : K). cmp k j) (sym e) ∙ p in
          find-above k xs (above-trans xs p s.0) ∙ sym (find-above k ys (above-trans ys q t.0))
      go Ordering.eq p =
          let q : k ≡ key x = L.equal p in
          let r : k ≡ key y = q ∙ e in
          find-above k xs (rw q s.0) ∙ sym (find-above k ys (rw r t.0))
      go Ordering.gt p =
          let q : cmp k (key y) ≡ Ordering.gt = ap (λ (j : K). cmp k j) (sym e) ∙ p in
          simp (p, q) at h

  -- EXTENSIONALITY: a sorted list is determined by what is found in it
  pub ext : (l m : List E) → Sorted key cmp l → Sorted key cmp m → ((k : K) → find key cmp k l ≡ find key cmp k m) → l ≡ m
  ext [] [] s t h = refl
  ext [] (y ∷ ys) s t h = absurd (some≢none (sym (find_head y ys) ∙ sym (h (key y))))
  ext (x ∷ xs) [] s t h = absurd (some≢none (sym (find_head x xs) ∙ h (key x)))
  ext (x ∷ xs) (y ∷ ys) s t h = go (cmp (key x) (key y)) refl (ext xs ys s.1 t.1)
    where
      go : (o : Ordering) → cmp (key x) (key y) ≡ o → (((k : K) → find key cmp k xs ≡ find key cmp k ys) → xs ≡ ys) → ◌≡◌ {A = List E} (x ∷ xs) (y ∷ ys)
      go Ordering.lt p r = absurd (some≢none (sym (find_head x xs) ∙ h (key x) ∙ find-above (key x) (y ∷ ys) (p, above-trans ys p t.0)))
      go Ordering.eq p r =
          let e : key x ≡ key y = L.equal p in
          let f : some x ≡ some y = sym (find_head x xs) ∙ h (key x) ∙ ap (λ (k : K). find key cmp k (y ∷ ys)) e ∙ find_head y ys in
          let xy : x ≡ y = cc in
          let ts : xs ≡ ys = r (λ (k : K). tail_from k x xs y ys e s t (h k)) in
          cc
      go Ordering.gt p r =
          let q : cmp (key y) (key x) ≡ Ordering.lt = L.less p in
          absurd (some≢none (sym (find_head y ys) ∙ sym (h (key y)) ∙ find-above (key y) (x ∷ xs) (q, above-trans xs q s.0)))

  -- equal keys are the same key
  pub keys-equal : {j k : K} → compare_is_eq (cmp j k) ≡ true → j ≡ k
  keys-equal {j} {k} h = L.equal (is_eq (cmp j k) h)

  -- two keys that differ, the other way round
  pub differ_sym : (j k : K) → compare_is_eq (cmp j k) ≡ false → compare_is_eq (cmp k j) ≡ false
  differ_sym j k h = go (compare_is_eq (cmp k j)) refl
    where
      go : (b : Bool) → compare_is_eq (cmp k j) ≡ b → b ≡ false
      go false e = refl
      go true e = sym (ap compare_is_eq (L.same k)) ∙ ap (λ (x : K). compare_is_eq (cmp x k)) (keys-equal e) ∙ h
