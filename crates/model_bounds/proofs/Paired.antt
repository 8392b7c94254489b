-- Two sorted reports with the same keys, entry by entry. Assumes nothing.
use Prim.Native.Nat.{Ordering}
use Prim.Native.Nat.{◌≤◌}
use mathlib.Core.Path.{◌≡◌, refl, sym, ap, ◌∙◌}
use mathlib.Core.Bool.{true}
use mathlib.Core.List.Memᴰ
use mathlib.Core.List.Memᴰ.{head as here}
use mathlib.Core.List.Memᴰ.{tail as there}
use mathlib.Core.List.{[], ◌∷◌, Memᴰ as Member}
use lib.Dec.{leb, compare_is_eq}
use borrow.Author.Tests.{le-leb, leb-true}
use Rattle.ordmap.specs.Keyed.{Above, Sorted}
use Rattle.ordmap.proofs.Results.{impossible}
use Rattle.ordmap.proofs.Maps.{keys-equal}
use Rattle.ordmap.proofs.Members.{above_member}
use Rattle.model.specs.Report.{Entry, Report, Key, compare_keys, entry_key, count_of}
use Rattle.model.proofs.KeyOrder.{keys-order}
use Rattle.model.proofs.ListLaws.{and_left, and_right}
use Rattle.model_bounds.specs.Bounds.{same_keys, counts_rise}
use Rattle.model_bounds.specs.Claims.{Holds, SameKeys}

-- key by key the same, and each two entries related
abbrev pub Paired : (Entry → Entry → Type 0) → Report → Report → Type 0
Paired R [] [] = Unit {0}
Paired R [] (y ∷ ys) = ⊥
Paired R (x ∷ xs) [] = ⊥
Paired R (x ∷ xs) (y ∷ ys) = (entry_key x ≡ entry_key y) × R x y × Paired R xs ys

abbrev pub Rises : Entry → Entry → Type 0
Rises x y = count_of x.item ≤ count_of y.item

abbrev pub Any : Entry → Entry → Type 0
Any x y = Unit {0}

abbrev SortedReport : Report → Type 0
SortedReport r = Sorted entry_key compare_keys r

lt_irrefl : {j k : Key} → compare_keys j k ≡ Ordering.lt → j ≡ k → ⊥
lt_irrefl {j} {k} h e =
    let z : Ordering.eq ≡ Ordering.lt = sym (keys-order.same j) ∙ ap (λ (x : Key). compare_keys j x) e ∙ h in
    impossible cc

lt_asym : (j k : Key) → compare_keys j k ≡ Ordering.lt → compare_keys k j ≡ Ordering.lt → ⊥
lt_asym j k h g = lt_irrefl {j = j} {k = j} (keys-order.trans h g) refl

-- an entry of a tail has not the key of the head
not_head : (x e : Entry) (xs : Report) → Above entry_key compare_keys (entry_key x) xs → Member e xs → entry_key x ≡ entry_key e → ⊥
not_head x e xs a m q = lt_irrefl (above_member entry_key compare_keys a m) q

module _ (R : Entry → Entry → Type 0) where
  -- by members, to entry by entry
  pub paired : (a b : Report) → SortedReport a → SortedReport b → ((x : Entry) → Member x a → Holds (entry_key x) b) → ((y : Entry) → Member y b → Holds (entry_key y) a)
      → ((x y : Entry) → Member x a → Member y b → entry_key x ≡ entry_key y → R x y) → Paired R a b
  paired [] [] s t f g h = tt
  paired [] (y ∷ ys) s t f g h = absurd (Memᴰ.not-nil (g y (here refl)).1)
  paired (x ∷ xs) [] s t f g h = absurd (Memᴰ.not-nil (f x (here refl)).1)
  paired (x ∷ xs) (y ∷ ys) s t f g h = (heads, h x y (here refl) (here refl) heads, paired xs ys s.1 t.1 left right (λ u v i j. h u v (there i) (there j)))
    where
      meet : Holds (entry_key x) (y ∷ ys) → Holds (entry_key y) (x ∷ xs) → entry_key x ≡ entry_key y
      meet (e, here p, q) w = sym (sym (ap entry_key p) ∙ q)
      meet (e, there i, q) (d, here p, r) = sym (ap entry_key p) ∙ r
      meet (e, there i, q) (d, there j, r) =
          absurd (lt_asym (entry_key x) (entry_key y) (ap (λ (k : Key). compare_keys (entry_key x) k) (sym r) ∙ above_member entry_key compare_keys s.0 j)
          (ap (λ (k : Key). compare_keys (entry_key y) k) (sym q) ∙ above_member entry_key compare_keys t.0 i))

      heads : entry_key x ≡ entry_key y
      heads = meet (f x (here refl)) (g y (here refl))

      left : (u : Entry) → Member u xs → Holds (entry_key u) ys
      left u i = go (f u (there i))
        where
          go : Holds (entry_key u) (y ∷ ys) → Holds (entry_key u) ys
          go (e, here p, q) = absurd (not_head x u xs s.0 i (heads ∙ sym (ap entry_key p) ∙ q))
          go (e, there j, q) = (e, j, q)

      right : (v : Entry) → Member v ys → Holds (entry_key v) xs
      right v i = go (g v (there i))
        where
          go : Holds (entry_key v) (x ∷ xs) → Holds (entry_key v) xs
          go (e, here p, q) = absurd (not_head y v ys t.0 i (sym heads ∙ sym (ap entry_key p) ∙ q))
          go (e, there j, q) = (e, j, q)

  pub paired_right : (a b : Report) → Paired R a b → (x : Entry) → Member x a → Holds (entry_key x) b
  paired_right [] b p x i = elim i [ ]
  paired_right (u ∷ us) (v ∷ vs) p x (here q) = (v, here refl, sym p.0 ∙ sym (ap entry_key q))
  paired_right (u ∷ us) (v ∷ vs) p x (there i) = let (e, m, q) = paired_right us vs p.2 x i in (e, there m, q)
  paired_right (u ∷ us) [] p x i = absurd p

  pub paired_left : (a b : Report) → Paired R a b → (y : Entry) → Member y b → Holds (entry_key y) a
  paired_left (u ∷ us) (v ∷ vs) p y (here q) = (u, here refl, p.0 ∙ sym (ap entry_key q))
  paired_left (u ∷ us) (v ∷ vs) p y (there i) = let (e, m, q) = paired_left us vs p.2 y i in (e, there m, q)
  paired_left [] [] p y i = elim i [ ]
  paired_left (u ∷ us) [] p y i = elim p [ ]
  paired_left [] (v ∷ vs) p y i = absurd p

  -- entries of one key are at one place
  pub paired_related : (a b : Report) → SortedReport a → SortedReport b → Paired R a b → (x y : Entry) → Member x a → Member y b → entry_key x ≡ entry_key y → R x y
  paired_related [] b s t p x y i j q = elim i [ ]
  paired_related (u ∷ us) (v ∷ vs) s t p x y (here i) (here j) q = rw (i, j) p.1
  paired_related (u ∷ us) (v ∷ vs) s t p x y (here i) (there j) q = absurd (not_head v y vs t.0 j (sym p.0 ∙ sym (ap entry_key i) ∙ q))
  paired_related (u ∷ us) (v ∷ vs) s t p x y (there i) (here j) q = absurd (not_head u x us s.0 i (p.0 ∙ sym (ap entry_key j) ∙ sym q))
  paired_related (u ∷ us) (v ∷ vs) s t p x y (there i) (there j) q = paired_related us vs s.1 t.1 p.2 x y i j q
  paired_related (u ∷ us) [] s t p x y i j q = absurd p

  pub paired_keys : (a b : Report) → Paired R a b → SameKeys a b
  paired_keys a b p k = (forward, back)
    where
      forward : Holds k a → Holds k b
      forward (x, i, q) = let (e, m, r) = paired_right a b p x i in (e, m, r ∙ q)

      back : Holds k b → Holds k a
      back (x, i, q) = let (e, m, r) = paired_left a b p x i in (e, m, r ∙ q)

  pub keys_paired : (a b : Report) → SortedReport a → SortedReport b → SameKeys a b
      → ((x y : Entry) → Member x a → Member y b → entry_key x ≡ entry_key y → R x y) → Paired R a b
  keys_paired a b s t K h = paired a b s t (λ x i. (K (entry_key x)).0 (x, i, refl)) (λ y i. (K (entry_key y)).1 (y, i, refl)) h

-- ---- the tests

pub keys-test : (a b : Report) → same_keys a b ≡ true → Paired Any a b
unfolding same_keys
keys-test [] [] h = tt
keys-test [] (y ∷ ys) h = impossible cc
keys-test (x ∷ xs) [] h = impossible cc
keys-test (x ∷ xs) (y ∷ ys) h =
    let same = compare_is_eq (compare_keys (entry_key x) (entry_key y)) in
    (keys-equal entry_key compare_keys keys-order (and_left same (same_keys xs ys) h), tt, keys-test xs ys (and_right same (same_keys xs ys) h))

pub test-keys : (a b : Report) → Paired Any a b → same_keys a b ≡ true
unfolding same_keys
test-keys [] [] h = refl
test-keys [] (y ∷ ys) h = absurd h
test-keys (x ∷ xs) [] h = absurd h
test-keys (x ∷ xs) (y ∷ ys) h = rw (h.0, keys-order.same (entry_key y)) (test-keys xs ys h.2)

pub counts-test : (a b : Report) → Paired Any a b → counts_rise a b ≡ true → Paired Rises a b
unfolding counts_rise
counts-test [] [] p h = tt
counts-test [] (y ∷ ys) p h = absurd p
counts-test (x ∷ xs) [] p h = absurd p
counts-test (x ∷ xs) (y ∷ ys) p h =
    let rise = leb (count_of x.item) (count_of y.item) in
    (p.0, leb-true (count_of x.item) (count_of y.item) (and_left rise (counts_rise xs ys) h), counts-test xs ys p.2 (and_right rise (counts_rise xs ys) h))

pub test-counts : (a b : Report) → Paired Rises a b → counts_rise a b ≡ true
unfolding counts_rise
test-counts [] [] p = refl
test-counts [] (y ∷ ys) p = absurd p
test-counts (x ∷ xs) [] p = absurd p
test-counts (x ∷ xs) (y ∷ ys) p = rw (le-leb (count_of x.item) (count_of y.item) p.1) (test-counts xs ys p.2)

pub forget : (R : Entry → Entry → Type 0) (a b : Report) → Paired R a b → Paired Any a b
forget R [] [] p = tt
forget R [] (y ∷ ys) p = absurd p
forget R (x ∷ xs) [] p = absurd p
forget R (x ∷ xs) (y ∷ ys) p = (p.0, tt, forget R xs ys p.2)
