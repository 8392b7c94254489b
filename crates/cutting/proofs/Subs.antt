-- Lists with some elements left out: what passes from a list to one of these. Assumes nothing.
use Prim.Native.Nat.{ℕ, ◌≤◌, Ordering}
use native.Mathlib.Omega.{arith}
use mathlib.Core.Path.{◌≡◌, refl, sym, ap, ◌∙◌}
use mathlib.Core.Bool.{Bool, true, false, cond}
use mathlib.Core.List.Memᴰ
use mathlib.Core.List.Memᴰ.{head as here}
use mathlib.Core.List.Memᴰ.{tail as there}
use mathlib.Core.List.{List, [], ◌∷◌, ◌++◌, map, Memᴰ as Member}
use mathlib.Core.Option.{Option, none, some}
use lib.Dec.{compare_is_eq}
use lib.ListN.{length}
use Rattle.ordmap.specs.Keyed.{Order, Above, Sorted, find, with_key}
use Rattle.ordmap.specs.Gathering.{flat, Same}
use Rattle.ordmap.proofs.Results.{impossible}
use Rattle.ordmap.proofs.Maps.{some≢none}
use Rattle.ordmap.proofs.Members.{above_member}
use Rattle.std.specs.Prelude.{if◌then◌else◌}
use Rattle.model.specs.Lists.{filter}
use Rattle.model.specs.Joined.{all_agree, agreeing, total}
use Rattle.model.proofs.ListLaws.{All, and_left, and_right}

-- the first list is the second, with some elements left out
pub data Sub {A : Type 0} : List A → List A → Type 0 where
  done : Sub [] []
  keep : {x : A} {xs ys : List A} → Sub xs ys → Sub (x ∷ xs) (x ∷ ys)
  leave : {y : A} {xs ys : List A} → Sub xs ys → Sub xs (y ∷ ys)

module _ {A : Type 0} where
  pub sub-none : (l : List A) → Sub [] l
  sub-none [] = done
  sub-none (x ∷ xs) = leave (sub-none xs)

  pub sub_trans : {l m n : List A} → Sub l m → Sub m n → Sub l n
  sub_trans s done = s
  sub_trans (keep {x = x} {xs = xs} s) (keep {xs = xs'} {ys = ys} t) = keep (sub_trans {l = xs} s t)
  sub_trans (leave s) (keep t) = leave (sub_trans s t)
  sub_trans s (leave t) = leave (sub_trans s t)

  pub sub-append : {a b c d : List A} → Sub a b → Sub c d → Sub (a ++ c) (b ++ d)
  sub-append done t = t
  sub-append (keep s) t = keep (sub-append s t)
  sub-append (leave s) t = leave (sub-append s t)

  pub sub-length : {l m : List A} → Sub l m → length l ≤ length m
  sub-length done = omega arith
  sub-length (keep s) = omega (arith, sub-length s)
  sub-length (leave s) = omega (arith, sub-length s)

  pub sub_All : (P : A → Type 0) {l m : List A} → Sub l m → All P m → All P l
  sub_All P done h = h
  sub_All P (keep s) h = (h.0, sub_All P s h.1)
  sub_All P (leave s) h = sub_All P s h.1

  pub sub_select : (test : A → Bool) (l : List A) → Sub (filter test l) l
  unfolding filter
  sub_select test [] = done
  sub_select test (x ∷ xs) = go (test x) (sub_select test xs)
    where
      go : (b : Bool) → Sub (filter test xs) xs → Sub (if b then x ∷ filter test xs else filter test xs) (x ∷ xs)
      go true s = keep s
      go false s = leave s

pub sub-map : {A B : Type 0} (f : A → B) {l m : List A} → Sub l m → Sub (map f l) (map f m)
sub-map f done = done
sub-map f (keep s) = keep (sub-map f s)
sub-map f (leave s) = leave (sub-map f s)

-- ---- by key

module _ {E K : Type 0} (key : E → K) (cmp : K → K → Ordering) where
  pub sub-above : (k : K) {l m : List E} → Sub l m → Above key cmp k m → Above key cmp k l
  sub-above k done a = a
  sub-above k (keep s) a = (a.0, sub-above k s a.1)
  sub-above k (leave s) a = sub-above k s a.1

  pub sub-sorted : {l m : List E} → Sub l m → Sorted key cmp m → Sorted key cmp l
  sub-sorted done t = t
  sub-sorted (keep {x = x} s) t = (sub-above (key x) s t.0, sub-sorted s t.1)
  sub-sorted (leave s) t = sub-sorted s t.1

  pub sub_only : (k : K) {l m : List E} → Sub l m → Sub (with_key key cmp k l) (with_key key cmp k m)
  sub_only k done = done
  sub_only k (keep {x = x} {xs = xs} {ys = ys} s) = go (compare_is_eq (cmp k (key x))) (sub_only k s)
    where
      go : (b : Bool) → Sub (with_key key cmp k xs) (with_key key cmp k ys)
          → Sub (cond b (x ∷ with_key key cmp k xs) (with_key key cmp k xs)) (cond b (x ∷ with_key key cmp k ys) (with_key key cmp k ys))
      go true t = keep t
      go false t = t
  sub_only k (leave {y = y} {xs = xs} {ys = ys} s) = go (compare_is_eq (cmp k (key y))) (sub_only k s)
    where
      go : (b : Bool) → Sub (with_key key cmp k xs) (with_key key cmp k ys) → Sub (with_key key cmp k xs) (cond b (y ∷ with_key key cmp k ys) (with_key key cmp k ys))
      go true t = leave t
      go false t = t

  pub sub-missing : (k : K) {l m : List E} → Sub l m → find key cmp k m ≡ none → find key cmp k l ≡ none
  sub-missing k done h = h
  sub-missing k (keep {x = x} {xs = xs} {ys = ys} s) h = go (compare_is_eq (cmp k (key x))) h (sub-missing k s)
    where
      go : (b : Bool) → cond b (some x) (find key cmp k ys) ≡ none → (find key cmp k ys ≡ none → find key cmp k xs ≡ none)
          → cond b (some x) (find key cmp k xs) ≡ none
      go true h ih = h
      go false h ih = ih h
  sub-missing k (leave {y = y} {xs = xs} {ys = ys} s) h = go (compare_is_eq (cmp k (key y))) h (sub-missing k s)
    where
      go : (b : Bool) → cond b (some y) (find key cmp k ys) ≡ none → (find key cmp k ys ≡ none → find key cmp k xs ≡ none)
          → find key cmp k xs ≡ none
      go true h ih = absurd (some≢none h)
      go false h ih = ih h

  module _ (L : Order cmp) where
    apart : {a b : E} → cmp (key a) (key b) ≡ Ordering.lt → a ≡ b → ⊥
    apart {a} {b} h e =
        let z : Ordering.eq ≡ Ordering.lt = sym (L.same (key a)) ∙ ap (λ (x : E). cmp (key a) (key x)) e ∙ h in
        impossible cc

    -- a sorted list whose elements are all in another one
    pub sub_of_members : (l m : List E) → Sorted key cmp l → Sorted key cmp m → ((a : E) → Member a l → Member a m) → Sub l m
    sub_of_members [] m s t h = sub-none m
    sub_of_members (x ∷ xs) [] s t h = absurd (Memᴰ.not-nil (h x (here refl)))
    sub_of_members (x ∷ xs) (y ∷ ys) s t h =
        go (h x (here refl)) (λ g. sub_of_members xs ys s.1 t.1 g) (λ g. sub_of_members (x ∷ xs) ys s t.1 g)
      where
        go : Member x (y ∷ ys) → (((a : E) → Member a xs → Member a ys) → Sub xs ys)
            → (((a : E) → Member a (x ∷ xs) → Member a ys) → Sub (x ∷ xs) ys) → Sub (x ∷ xs) (y ∷ ys)
        go (here e) same past = rw e (keep (same (λ a i. later a i (h a (there i)))))
          where
            later : (a : E) → Member a xs → Member a (y ∷ ys) → Member a ys
            later a i (here f) = absurd (apart (above_member key cmp s.0 i) (e ∙ sym f))
            later a i (there j) = j
        go (there m) same past = leave (past rest)
          where
            later : (a : E) → Member a xs → Member a (y ∷ ys) → Member a ys
            later a i (here f) =
                absurd (apart (L.trans (above_member key cmp t.0 m) (above_member key cmp s.0 i)) (sym f))
            later a i (there j) = j

            rest : (a : E) → Member a (x ∷ xs) → Member a ys
            rest a (here f) = rw f m
            rest a (there i) = later a i (h a (there i))

-- ---- lists of lists

pub data Subs {A : Type 0} : List (List A) → List (List A) → Type 0 where
  no_lists : Subs [] []
  more_lists : {l m : List A} {ls ms : List (List A)} → Sub l m → Subs ls ms → Subs (l ∷ ls) (m ∷ ms)

pub sub-flat : {A : Type 0} {ls ms : List (List A)} → Subs ls ms → Sub (flat ls) (flat ms)
sub-flat no_lists = done
sub-flat (more_lists s t) = sub-append s (sub-flat t)

-- ---- what all agree on, and sums

module _ {A : Type 0} (same : A → A → Bool) (S : Same same) where
  sub-all_agree : (a : A) {l m : List (Option A)} → Sub l m → all_agree same a m ≡ true → all_agree same a l ≡ true
  unfolding all_agree
  sub-all_agree a done h = h
  sub-all_agree a (keep {x = none} s) h = sub-all_agree a s h
  sub-all_agree a (keep {x = some b} {ys = ys} s) h =
      rw (and_left (same a b) (all_agree same a ys) h) (sub-all_agree a s (and_right (same a b) (all_agree same a ys) h))
  sub-all_agree a (leave {y = none} s) h = sub-all_agree a s h
  sub-all_agree a (leave {y = some b} {ys = ys} s) h = sub-all_agree a s (and_right (same a b) (all_agree same a ys) h)

  agree-agreeing : (a : A) (l : List (Option A)) → all_agree same a l ≡ true → agreeing same l ≡ true
  unfolding all_agree agreeing
  agree-agreeing a [] h = refl
  agree-agreeing a (none ∷ l) h = agree-agreeing a l h
  agree-agreeing a (some b ∷ l) h =
      ap (λ (x : A). all_agree same x l) (sym (S.same_eq a b (and_left (same a b) (all_agree same a l) h)))
      ∙ and_right (same a b) (all_agree same a l) h

  pub sub-agreeing : {l m : List (Option A)} → Sub l m → agreeing same m ≡ true → agreeing same l ≡ true
  unfolding agreeing
  sub-agreeing done h = h
  sub-agreeing (keep {x = none} s) h = sub-agreeing s h
  sub-agreeing (keep {x = some a} s) h = sub-all_agree a s h
  sub-agreeing (leave {y = none} s) h = sub-agreeing s h
  sub-agreeing (leave {y = some a} {ys = ys} s) h = sub-agreeing s (agree-agreeing a ys h)

pub sub-total : {l m : List ℕ} → Sub l m → total l ≤ total m
unfolding total
sub-total done = omega arith
sub-total (keep s) = omega (arith, sub-total s)
sub-total (leave s) = omega (arith, sub-total s)
