-- Gathering: accepted exactly when all sources are readable, their entries join, and the whole is within the limit. Assumes nothing.
use mathlib.Core.Path.{◌≡◌, refl, sym, ap, ◌∙◌}
use mathlib.Core.Logic.{◌↔◌}
use mathlib.Core.Bool.{Bool, true, false, cond}
use mathlib.Core.Option.{none}
use mathlib.Core.List.{List, [], ◌∷◌, ◌++◌, map, Permᴰ as Perm}
use mathlib.Core.List.Permᴰ.{cons as p-cons}
use mathlib.Core.List.Permᴰ.{nil as p-nil}
use mathlib.Core.List.Permᴰ.{swap as p-swap}
use mathlib.Core.List.Permᴰ.{trans as p-trans}
use mathlib.Core.List.Permᴰ.{refl as p-refl}
use Prim.Native.Nat.{ℕ, ◌≤◌, zero-le, ◌<◌, Ordering}
use native.Mathlib.Omega.{arith}
use lib.Dec.{leb}
use lib.ListN.{length}
use borrow.Author.Tests.{le-leb, lt-leb, leb-true, leb-false}
use Rattle.ordmap.specs.Result.{Result, accepted, refused, bind, map_accepted, value}
use Rattle.ordmap.specs.Keyed.{add_all}
use Rattle.ordmap.specs.Gathering.{flat, within, read_all, map_refused, gather_one, gather_all}
use Rattle.ordmap.proofs.Results.{accepted_inj, not_accepted, bind-accepted, map_accepted-accepted, value-accepted}
use Rattle.ordmap.proofs.Sizes.{add_all-length, add_all-append}

module _ {R A : Type 0} (full : R) (limit n : ℕ) (a : A) where
  pub within-fits : n ≤ limit → within full limit n a ≡ accepted a
  within-fits h = rw (le-leb n limit h)

  within_full : limit < n → within full limit n a ≡ refused full
  within_full h = rw (lt-leb n limit h)

  pub within-accepted : {b : A} → within full limit n a ≡ accepted b → (a ≡ b) × (n ≤ limit)
  within-accepted {b} p = go (leb n limit) refl p
    where
      go : (t : Bool) → leb n limit ≡ t → cond t (accepted a) (refused full) ≡ accepted b → (a ≡ b) × (n ≤ limit)
      go true e q = (accepted_inj q, leb-true n limit e)
      go false e q = absurd (not_accepted q)

pub map_refused-accepted : {R A : Type 0} (f : R → R) (r : Result R A) {a : A} → map_refused f r ≡ accepted a → r ≡ accepted a
map_refused-accepted f (accepted b) p = p
map_refused-accepted f (refused c) p = absurd (not_accepted p)

-- a refusal's place does not count
placed : {R A B : Type 0} (f : R → R) (r : Result R A) (next : A → Result R B) → value (bind (map_refused f r) next) ≡ value (bind r next)
placed f (accepted a) next = refl
placed f (refused r) next = refl

module _ {R T E : Type 0} (read : T → Result R (List E)) where
  read_all_both : (t : T) (ts : List T) {r : List E} {rs : List (List E)} → read t ≡ accepted r → read_all read ts ≡ accepted rs → read_all read (t ∷ ts) ≡ accepted (r ∷ rs)
  read_all_both t ts h i = rw (h, i)

  pub read_all-cons : (t : T) (ts : List T) {rs : List (List E)} → read_all read (t ∷ ts) ≡ accepted rs
      → (r : List E) × (qs : List (List E)) × (read t ≡ accepted r) × (read_all read ts ≡ accepted qs) × (r ∷ qs ≡ rs)
  read_all-cons t ts p =
      let (r, h, q) = bind-accepted (read t) (λ r. map_accepted (λ rs. r ∷ rs) (read_all read ts)) p in
      let (qs, i, f) = map_accepted-accepted (λ rs. r ∷ rs) (read_all read ts) q in
      (r, qs, h, i, f)

  -- two runs of sources, one after the other
  pub read_all-append : (ts us : List T) {rs qs : List (List E)} → read_all read ts ≡ accepted rs → read_all read us ≡ accepted qs
      → read_all read (ts ++ us) ≡ accepted (rs ++ qs)
  read_all-append [] us {rs} {qs} h i = i ∙ ap (λ (l : List (List E)). accepted (l ++ qs)) (accepted_inj h)
  read_all-append (t ∷ ts) us {rs} {qs} h i =
      let (r, os, j, k, f) = read_all-cons t ts h in
      read_all_both t (ts ++ us) j (read_all-append ts us k i) ∙ ap (λ (l : List (List E)). accepted (l ++ qs)) f

  -- sources in another order are read to the same maps in another order
  pub read_all_perm : {ts us : List T} (rs : List (List E)) → Perm ts us → read_all read ts ≡ accepted rs → (qs : List (List E)) × (read_all read us ≡ accepted qs) × Perm rs qs
  read_all_perm rs p-nil p = (rs, p, p-refl rs)
  read_all_perm rs (p-cons {a = a} {b = b} {l₁ = ts} {l₂ = us} e d) p = go (read_all-cons a ts p) (λ qs q. read_all_perm qs d q)
    where
      put : (r : List E) (qs : List (List E)) → read a ≡ accepted r → r ∷ qs ≡ rs → (os : List (List E)) × (read_all read us ≡ accepted os) × Perm qs os
          → (os : List (List E)) × (read_all read (b ∷ us) ≡ accepted os) × Perm rs os
      put r qs h f (os, i, g) = (r ∷ os, read_all_both b us (rw (← e) h) i, rw (← f) (p-cons refl g))

      go : (r : List E) × (qs : List (List E)) × (read a ≡ accepted r) × (read_all read ts ≡ accepted qs) × (r ∷ qs ≡ rs)
          → ((qs : List (List E)) → read_all read ts ≡ accepted qs → (os : List (List E)) × (read_all read us ≡ accepted os) × Perm qs os)
          → (os : List (List E)) × (read_all read (b ∷ us) ≡ accepted os) × Perm rs os
      go (r, qs, h, i, f) ih = put r qs h f (ih qs i)
  read_all_perm rs (p-swap {a = a} {b = b} {a' = a'} {b' = b'} {l = ts} e f) p = go (read_all-cons a (b ∷ ts) p)
    where
      put : (r : List E) (qs : List (List E)) → read a ≡ accepted r → r ∷ qs ≡ rs
          → (s : List E) × (os : List (List E)) × (read b ≡ accepted s) × (read_all read ts ≡ accepted os) × (s ∷ os ≡ qs)
          → (os : List (List E)) × (read_all read (a' ∷ b' ∷ ts) ≡ accepted os) × Perm rs os
      put r qs h g (s, os, i, j, k) =
          (s ∷ r ∷ os, read_all_both a' (b' ∷ ts) (rw (← f) i) (read_all_both b' ts (rw (← e) h) j), rw (← g, ← k) (p-swap refl refl))

      go : (r : List E) × (qs : List (List E)) × (read a ≡ accepted r) × (read_all read (b ∷ ts) ≡ accepted qs) × (r ∷ qs ≡ rs)
          → (os : List (List E)) × (read_all read (a' ∷ b' ∷ ts) ≡ accepted os) × Perm rs os
      go (r, qs, h, i, g) = put r qs h g (read_all-cons b ts i)
  read_all_perm {us} rs (p-trans {l₂ = ls} c d) p = go (read_all_perm rs c p) (λ qs q. read_all_perm qs d q)
    where
      go : (qs : List (List E)) × (read_all read ls ≡ accepted qs) × Perm rs qs
          → ((qs : List (List E)) → read_all read ls ≡ accepted qs → (os : List (List E)) × (read_all read us ≡ accepted os) × Perm qs os)
          → (os : List (List E)) × (read_all read us ≡ accepted os) × Perm rs os
      go (qs, q, g) ih = let (os, o, g') = ih qs q in (os, o, p-trans g g')

module _ {R T B E K : Type 0} (key : E → K) (cmp : K → K → Ordering) (combine : E → E → Result R E) (content : T → B)
    (read : B → Result R (List E)) (full : R) (limit : ℕ) (place : T → R → R) where
  -- a map that may be as long as the limit
  abbrev pub fitting : List E → Result R (List E)
  fitting l = within full limit (length l) l

  abbrev gathers : List T → List E → Result R (List E)
  gathers ts m = gather_all key cmp combine content read full limit place ts m

  -- what gathering gives: all read, all joined, and the limit tested once, at the end
  abbrev pub at_once : List T → List E → Result R (List E)
  at_once ts m = bind (read_all read (map content ts)) (λ rs. bind (add_all key cmp combine (flat rs) m) fitting)

  -- past the limit nothing is accepted any more
  late : (n : List E) → limit < length n → (rest : Result R (List (List E)))
      → none ≡ value (bind rest (λ rs. bind (add_all key cmp combine (flat rs) n) fitting))
  late n h (refused c) = refl
  late n h (accepted rs) = go (add_all key cmp combine (flat rs) n) refl
    where
      go : (x : Result R (List E)) → add_all key cmp combine (flat rs) n ≡ x → none ≡ value (bind x fitting)
      go (refused c) p = refl
      go (accepted l) p =
          let long : limit < length l = omega (arith, add_all-length key cmp combine (flat rs) n l p) in
          rw (within_full full limit (length l) l long)

  gone : (x : Result R (List E)) (rest : Result R (List (List E))) (next : List E → Result R (List E))
      → ((n : List E) → length n ≤ limit → value (next n) ≡ value (bind rest (λ rs. bind (add_all key cmp combine (flat rs) n) fitting)))
      → value (bind (bind x fitting) next)
      ≡ value (bind rest (λ rs. bind (bind x (λ n. add_all key cmp combine (flat rs) n)) fitting))
  gone (refused c) (accepted rs) next ih = refl
  gone (refused c) (refused d) next ih = refl
  gone (accepted n) rest next ih = go (leb (length n) limit) refl
    where
      go : (b : Bool) → leb (length n) limit ≡ b
          → value (bind (cond b (accepted n) (refused full)) next)
          ≡ value (bind rest (λ rs. bind (add_all key cmp combine (flat rs) n) fitting))
      go true e = ih n (leb-true (length n) limit e)
      go false e = late n (leb-false (length n) limit e) rest

  -- ONE TEST: the limit tested after each map is passed everywhere exactly when it is passed at the end
  pub gather-value : (ts : List T) (m : List E) → length m ≤ limit → value (gathers ts m) ≡ value (at_once ts m)
  gather-value [] m h = ap value (sym (within-fits full limit (length m) m h))
  gather-value (t ∷ ts) m h =
      placed (place t) (gather_one key cmp combine content read full limit place (content t) m) next ∙ reading (read (content t)) (gather-value ts)
    where
      next : List E → Result R (List E)
      next n = gathers ts n

      regroup : (r : List E) (rest : Result R (List (List E)))
          → value (bind rest (λ rs. bind (bind (add_all key cmp combine r m) (λ n. add_all key cmp combine (flat rs) n)) fitting))
          ≡ value (bind (map_accepted (λ rs. r ∷ rs) rest) (λ rs. bind (add_all key cmp combine (flat rs) m) fitting))
      regroup r (accepted rs) = ap (λ (x : Result R (List E)). value (bind x fitting)) (sym (add_all-append key cmp combine r (flat rs) m))
      regroup r (refused c) = refl

      reading : (x : Result R (List E)) → ((n : List E) → length n ≤ limit → value (next n) ≡ value (at_once ts n))
          → value (bind (bind x (λ r. bind (add_all key cmp combine r m) fitting)) next)
          ≡ value (bind (bind x (λ r. map_accepted (λ rs. r ∷ rs) (read_all read (map content ts)))) (λ rs. bind (add_all key cmp combine (flat rs) m) fitting))
      reading (refused c) ih = refl
      reading (accepted r) ih = gone (add_all key cmp combine r m) (read_all read (map content ts)) next ih ∙ regroup r (read_all read (map content ts))

  -- ACCEPTED exactly when each source is readable, all the entries join, and the joined map is within the limit; and then it is that map
  pub gather-accepted : (ts : List T) (n : List E)
      → (gathers ts [] ≡ accepted n)
      ↔ ((rs : List (List E)) × (read_all read (map content ts) ≡ accepted rs) × (add_all key cmp combine (flat rs) [] ≡ accepted n) × (length n ≤ limit))
  gather-accepted ts n = (there, back)
    where
      there : gathers ts [] ≡ accepted n
          → (rs : List (List E)) × (read_all read (map content ts) ≡ accepted rs) × (add_all key cmp combine (flat rs) [] ≡ accepted n) × (length n ≤ limit)
      there p =
          let q : at_once ts [] ≡ accepted n = value-accepted (at_once ts []) (sym (gather-value ts [] zero-le) ∙ ap value p) in
          let (rs, r, q') = bind-accepted (read_all read (map content ts)) (λ rs. bind (add_all key cmp combine (flat rs) []) fitting) q in
          let (l, a, w) = bind-accepted (add_all key cmp combine (flat rs) []) fitting q' in
          let (b, f) = fits rs l a w in
          (rs, r, b, f)
        where
          fits : (rs : List (List E)) (l : List E) → add_all key cmp combine (flat rs) [] ≡ accepted l → fitting l ≡ accepted n
              → (add_all key cmp combine (flat rs) [] ≡ accepted n) × (length n ≤ limit)
          fits rs l a w =
              let (e, f) = within-accepted full limit (length l) l w in
              (a ∙ ap (λ (x : List E). accepted x) e, omega (arith, ap length e, f))

      back : (rs : List (List E)) × (read_all read (map content ts) ≡ accepted rs) × (add_all key cmp combine (flat rs) [] ≡ accepted n) × (length n ≤ limit)
          → gathers ts [] ≡ accepted n
      back (rs, r, a, f) =
          let q : at_once ts [] ≡ accepted n = rw (r, a, within-fits full limit (length n) n f) in
          value-accepted (gathers ts []) (gather-value ts [] zero-le ∙ ap value q)
