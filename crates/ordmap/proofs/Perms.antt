-- Permutations: members, entries of a key, lists laid end to end, and lists that hold the same things each equally often. Assumes nothing.
use mathlib.Core.Path.{◌≡◌, refl, sym, ap, ◌∙◌}
use mathlib.Core.Bool.{Bool, true, false, cond}
use mathlib.Core.List.Memᴰ.{head as here}
use mathlib.Core.List.Memᴰ.{tail as there}
use mathlib.Core.List.{List, [], ◌∷◌, ◌++◌, Memᴰ as Member, Permᴰ as Perm}
use mathlib.Core.List.Permᴰ.{cons as p-cons}
use mathlib.Core.List.Permᴰ.{nil as p-nil}
use mathlib.Core.List.Permᴰ.{swap as p-swap}
use mathlib.Core.List.Permᴰ.{trans as p-trans}
use mathlib.Core.List.Permᴰ.{append_left as p-append-left}
use mathlib.Core.List.Permᴰ.{middle as p-middle}
use mathlib.Core.List.Permᴰ.{refl as p-refl}
use mathlib.Core.List.Permᴰ.{symm as p-symm}
use Prim.Native.Nat.{ℕ, suc, Ordering}
use native.Mathlib.Omega.{arith}
use lib.Dec.{compare_is_eq}
use Rattle.ordmap.specs.Keyed.{with_key}
use Rattle.ordmap.specs.Gathering.{flat, times, Same}

-- a permutation has the same members
pub perm_member : {A : Type 0} {a : A} {l m : List A} → Perm l m → Member a l → Member a m
perm_member p-nil i = i
perm_member (p-cons e d) (here h) = here (h ∙ e)
perm_member (p-cons e d) (there i) = there (perm_member d i)
perm_member (p-swap e f) (here h) = there (here (h ∙ e))
perm_member (p-swap e f) (there (here h)) = here (h ∙ f)
perm_member (p-swap e f) (there (there i)) = there (there i)
perm_member (p-trans c d) i = perm_member d (perm_member c i)

module _ {E K : Type 0} (key : E → K) (cmp : K → K → Ordering) where
  -- the entries of a key, in a permutation
  pub perm_only : (k : K) {l m : List E} → Perm l m → Perm (with_key key cmp k l) (with_key key cmp k m)
  perm_only k p-nil = p-nil
  perm_only k (p-cons {a = a} {b = b} {l₁ = l} {l₂ = m} e d) = rw (← e) (go (compare_is_eq (cmp k (key a))) (perm_only k d))
    where
      go : (t : Bool) → Perm (with_key key cmp k l) (with_key key cmp k m)
          → Perm (cond t (a ∷ with_key key cmp k l) (with_key key cmp k l)) (cond t (a ∷ with_key key cmp k m) (with_key key cmp k m))
      go true d = p-cons refl d
      go false d = d
  perm_only k (p-swap {a = a} {b = b} {l = l} e f) = rw (← e, ← f) (go (compare_is_eq (cmp k (key a))) (compare_is_eq (cmp k (key b))))
    where
      o : List E
      o = with_key key cmp k l

      go : (s t : Bool) → Perm (cond s (a ∷ cond t (b ∷ o) o) (cond t (b ∷ o) o)) (cond t (b ∷ cond s (a ∷ o) o) (cond s (a ∷ o) o))
      go true true = p-swap refl refl
      go true false = p-refl (a ∷ o)
      go false true = p-refl (b ∷ o)
      go false false = p-refl o
  perm_only k (p-trans c d) = p-trans (perm_only k c) (perm_only k d)

module _ {A : Type 0} where
  perm_blocks : (a b r : List A) → Perm (a ++ (b ++ r)) (b ++ (a ++ r))
  perm_blocks [] b r = p-refl (b ++ r)
  perm_blocks (x ∷ a) b r = p-trans (p-cons refl (perm_blocks a b r)) (p-symm (p-middle x b (a ++ r)))

  -- lists in another order, laid end to end
  pub perm_flat : {rs qs : List (List A)} → Perm rs qs → Perm (flat rs) (flat qs)
  perm_flat p-nil = p-nil
  perm_flat (p-cons {a = a} e d) = rw (← e) (p-append-left a (perm_flat d))
  perm_flat (p-swap {a = a} {b = b} {l = l} e f) = rw (← e, ← f) (perm_blocks a b (flat l))
  perm_flat (p-trans c d) = p-trans (perm_flat c) (perm_flat d)

module _ {T : Type 0} (same : T → T → Bool) (S : Same same) where
  split : (a : T) (l : List T) {n : ℕ} → times same a l ≡ suc n → (p : List T) × (q : List T) × (l ≡ p ++ (a ∷ q))
  split a [] h = absurd (omega (arith, h))
  split a (x ∷ xs) {n} h = go (same a x) refl h (λ i. split a xs i)
    where
      past : (p : List T) × (q : List T) × (xs ≡ p ++ (a ∷ q)) → (p : List T) × (q : List T) × (x ∷ xs ≡ p ++ (a ∷ q))
      past (p, q, e) = (x ∷ p, q, ap (λ (l : List T). x ∷ l) e)

      go : (b : Bool) → same a x ≡ b → cond b (suc (times same a xs)) (times same a xs) ≡ suc n
          → (times same a xs ≡ suc n → (p : List T) × (q : List T) × (xs ≡ p ++ (a ∷ q))) → (p : List T) × (q : List T) × (x ∷ xs ≡ p ++ (a ∷ q))
      go true e i ih = ([], xs, ap (λ (y : T). y ∷ xs) (sym (S.same_eq a x e)))
      go false e i ih = past (ih i)

  times_middle : (a x : T) (p q : List T) → times same a (p ++ (x ∷ q)) ≡ times same a (x ∷ (p ++ q))
  times_middle a x [] q = refl
  times_middle a x (y ∷ p) q = go (same a y) (same a x) (times same a (p ++ (x ∷ q))) (times same a (p ++ q)) (times_middle a x p q)
    where
      go : (b c : Bool) (m n : ℕ) → m ≡ cond c (suc n) n → cond b (suc m) m ≡ cond c (suc (cond b (suc n) n)) (cond b (suc n) n)
      go true true m n h = ap suc h
      go true false m n h = ap suc h
      go false true m n h = h
      go false false m n h = h

  times_head : (x : T) (xs : List T) → times same x (x ∷ xs) ≡ suc (times same x xs)
  times_head x xs = rw (S.same_refl x)

  times_tail : (a x : T) (xs ys : List T) → times same a (x ∷ xs) ≡ times same a (x ∷ ys) → times same a xs ≡ times same a ys
  times_tail a x xs ys h = go (same a x) h
    where
      go : (b : Bool) → cond b (suc (times same a xs)) (times same a xs) ≡ cond b (suc (times same a ys)) (times same a ys) → times same a xs ≡ times same a ys
      go true h = omega arith
      go false h = h

  -- EACH EQUALLY OFTEN
  pub perm_of_times : (l m : List T) → ((a : T) → times same a l ≡ times same a m) → Perm l m
  perm_of_times [] [] h = p-nil
  perm_of_times [] (y ∷ ys) h = absurd (omega (arith, h y ∙ times_head y ys))
  perm_of_times (x ∷ xs) m h = go (split x m (sym (h x) ∙ times_head x xs)) (λ ys i. perm_of_times xs ys i)
    where
      go : (p : List T) × (q : List T) × (m ≡ p ++ (x ∷ q)) → ((ys : List T) → ((a : T) → times same a xs ≡ times same a ys) → Perm xs ys) → Perm (x ∷ xs) m
      go (p, q, e) ih =
          rw e
          (p-trans (p-cons refl (ih (p ++ q) (λ a. times_tail a x xs (p ++ q) (h a ∙ ap (times same a) e ∙ times_middle a x p q)))) (p-symm (p-middle x p q)))

-- a permutation holds each element equally often
pub perm_times : {T : Type 0} (same : T → T → Bool) (a : T) {l m : List T} → Perm l m → times same a l ≡ times same a m
perm_times same a p-nil = refl
perm_times same a (p-cons {a = x} {b = y} {l₂ = m} e d) =
    ap (λ (n : ℕ). cond (same a x) (suc n) n) (perm_times same a d)
    ∙ ap (λ z. cond (same a z) (suc (times same a m)) (times same a m)) e
perm_times same a (p-swap {a = x} {b = y} {l = l} e f) = rw (← e, ← f) (go (same a x) (same a y) (times same a l))
  where
    go : (b c : Bool) (n : ℕ) → cond b (suc (cond c (suc n) n)) (cond c (suc n) n) ≡ cond c (suc (cond b (suc n) n)) (cond b (suc n) n)
    go true true n = refl
    go true false n = refl
    go false true n = refl
    go false false n = refl
perm_times same a (p-trans c d) = perm_times same a c ∙ perm_times same a d
