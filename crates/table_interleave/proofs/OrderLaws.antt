-- Entries of other keys may be added before or after one. Assumes nothing.
use mathlib.Core.Path.{◌≡◌, refl, sym, ap, ◌∙◌}
use mathlib.Core.Bool.{Bool, true, false, cond}
use mathlib.Core.List.Memᴰ.{head as here}
use mathlib.Core.List.Memᴰ.{tail as there}
use mathlib.Core.List.{List, [], ◌∷◌, ◌++◌, Memᴰ as Member}
use Prim.Native.Nat.{Ordering}
use lib.Dec.{compare_is_eq}
use Rattle.ordmap.specs.Result.{Result, accepted, bind}
use Rattle.ordmap.specs.Keyed.{Order, Sorted, find, with_key, join_all, add, add_all, Keyed}
use Rattle.ordmap.proofs.Maps.{keys-equal}
use Rattle.ordmap.proofs.Sizes.{add_all-append}
use Rattle.ordmap.proofs.Exact.{add_all-exactly}

module _ {E K : Type 0} (key : E → K) (cmp : K → K → Ordering) (L : Order cmp) (e : E) where
  -- an entry whose key is unique is first or last
  only_last : (k : K) (es : List E) → ((a : E) → Member a es → compare_is_eq (cmp (key e) (key a)) ≡ false)
      → with_key key cmp k (es ++ e ∷ []) ≡ with_key key cmp k (e ∷ es)
  only_last k [] h = refl
  only_last k (x ∷ es) h = go (compare_is_eq (cmp k (key e))) refl (only_last k es (λ a i. h a (there i)))
    where
      go : (b : Bool) → compare_is_eq (cmp k (key e)) ≡ b
          → with_key key cmp k (es ++ e ∷ []) ≡ cond (compare_is_eq (cmp k (key e))) (e ∷ with_key key cmp k es) (with_key key cmp k es)
          → with_key key cmp k (x ∷ es ++ e ∷ []) ≡ cond b (e ∷ with_key key cmp k (x ∷ es)) (with_key key cmp k (x ∷ es))
      go false q ih = rw (ih, q)
      go true q ih =
          let z : compare_is_eq (cmp k (key x)) ≡ false = ap (λ (j : K). compare_is_eq (cmp j (key x))) (keys-equal key cmp L q) ∙ h x (here refl) in
          rw (ih, q, z)

module _ {R E K : Type 0} (key : E → K) (cmp : K → K → Ordering) (combine : E → E → Result R E) (L : Order cmp) (C : Keyed key cmp combine) where
  -- what an entry is added to after others of other keys, it may be added to before
  pub add-before : (e : E) (es m m' n n' : List E) → Sorted key cmp m → ((a : E) → Member a es → compare_is_eq (cmp (key e) (key a)) ≡ false)
      → add key cmp combine e m ≡ accepted m' → add_all key cmp combine es m ≡ accepted n → add key cmp combine e n ≡ accepted n'
      → add_all key cmp combine es m' ≡ accepted n'
  add-before e es m m' n n' s others p q r =
      let last : add_all key cmp combine (es ++ e ∷ []) m ≡ accepted n' = add_all-append key cmp combine es (e ∷ []) m ∙ rw (q, r) in
      let (t, join) = (add_all-exactly key cmp combine L C (es ++ e ∷ []) m n' s).0 last in
      let first : add_all key cmp combine (e ∷ es) m ≡ accepted n' =
      (add_all-exactly key cmp combine L C (e ∷ es) m n' s).1
      (t, λ (k : K). ap (join_all combine (find key cmp k m)) (sym (only_last key cmp L e k es others)) ∙ join k) in
      sym (ap (λ (a : Result R (List E)). bind a (λ l. add_all key cmp combine es l)) p) ∙ first
