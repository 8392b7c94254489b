-- Comparisons of numbers, lists and pairs are orders. Assumes nothing.
use mathlib.Core.Path.{◌≡◌, refl, sym, ap, ◌∙◌}
use mathlib.Core.Bool.{true}
use mathlib.Core.List.{List, [], ◌∷◌}
use Prim.Native.Nat.compare
use Prim.Native.Nat.{ℕ, zero, suc, ◌<◌, compare, Ordering}
use native.Mathlib.Omega.{arith}
use lib.Dec.{compare_is_eq}
use Rattle.ordmap.specs.Keyed.{Order}
use Rattle.ordmap.specs.Compare.{lex, compare_pair, compare_list}

-- a comparison whose test says equal
pub is_eq : (o : Ordering) → compare_is_eq o ≡ true → o ≡ Ordering.eq
is_eq Ordering.lt h = cc
is_eq Ordering.eq h = refl
is_eq Ordering.gt h = cc

-- NUMBERS
abbrev pub Says : Ordering → ℕ → ℕ → Type 0
Says Ordering.lt m n = m < n
Says Ordering.eq m n = m ≡ n
Says Ordering.gt m n = n < m

says_suc : (o : Ordering) (m n : ℕ) → Says o m n → Says o (suc m) (suc n)
says_suc Ordering.lt m n h = omega arith
says_suc Ordering.eq m n h = omega arith
says_suc Ordering.gt m n h = omega arith

pub says : (m n : ℕ) → Says (compare m n) m n
says zero zero = refl
says zero (suc n) = rw (compare.zero-suc n) (omega arith)
says (suc m) zero = rw (compare.suc-zero m) (omega arith)
says (suc m) (suc n) = rw (compare.suc-suc m n) (says_suc (compare m n) m n (says m n))

pub said : (o : Ordering) (m n : ℕ) → Says o m n → compare m n ≡ o
said o m n h = go o (compare m n) h (says m n)
  where
    go : (o p : Ordering) → Says o m n → Says p m n → p ≡ o
    go Ordering.lt Ordering.lt h i = refl
    go Ordering.lt Ordering.eq h i = absurd (omega arith)
    go Ordering.lt Ordering.gt h i = absurd (omega arith)
    go Ordering.eq Ordering.lt h i = absurd (omega arith)
    go Ordering.eq Ordering.eq h i = refl
    go Ordering.eq Ordering.gt h i = absurd (omega arith)
    go Ordering.gt Ordering.lt h i = absurd (omega arith)
    go Ordering.gt Ordering.eq h i = absurd (omega arith)
    go Ordering.gt Ordering.gt h i = refl

pub saying : (m n : ℕ) (o : Ordering) → compare m n ≡ o → Says o m n
saying m n o h = rw h at (says m n)

pub number-order : Order compare
number-order =
    record {
      same = λ n. said Ordering.eq n n refl;
      equal = λ {a} {b} h. saying a b Ordering.eq h;
      less = λ {a} {b} h. said Ordering.lt b a (saying a b Ordering.gt h);
      greater = λ {a} {b} h. said Ordering.gt b a (saying a b Ordering.lt h);
      trans = λ {a} {b} {c} h i. said Ordering.lt a c (omega (arith, saying a b Ordering.lt h, saying b c Ordering.lt i));
    }

-- the other way round
abbrev flip : Ordering → Ordering
flip Ordering.lt = Ordering.gt
flip Ordering.eq = Ordering.eq
flip Ordering.gt = Ordering.lt

flip_then : (o p : Ordering) → flip (lex o p) ≡ lex (flip o) (flip p)
flip_then Ordering.lt p = refl
flip_then Ordering.eq p = refl
flip_then Ordering.gt p = refl

then-eq : (o p : Ordering) → lex o p ≡ Ordering.eq → (o ≡ Ordering.eq) × (p ≡ Ordering.eq)
then-eq Ordering.lt p h = (cc, cc)
then-eq Ordering.eq p h = (refl, h)
then-eq Ordering.gt p h = (cc, cc)

-- an order from a law for each of: same, equal, the other way round, and less
order_of_lem : {K : Type 0} (cmp : K → K → Ordering) → ((a : K) → cmp a a ≡ Ordering.eq) → ((a b : K) → cmp a b ≡ Ordering.eq → a ≡ b)
    → ((a b : K) → cmp b a ≡ flip (cmp a b)) → ((a b c : K) → cmp a b ≡ Ordering.lt → cmp b c ≡ Ordering.lt → cmp a c ≡ Ordering.lt) → Order cmp
order_of_lem cmp s e f t =
    record {
      same = s;
      equal = λ {a} {b} h. e a b h;
      less = λ {a} {b} h. f a b ∙ ap flip h;
      greater = λ {a} {b} h. f a b ∙ ap flip h;
      trans = λ {a} {b} {c} h i. t a b c h i;
    }

module _ {A : Type 0} (c : A → A → Ordering) (O : Order c) where
  flipped : (a b : A) → c b a ≡ flip (c a b)
  flipped a b = go (c a b) refl
    where
      go : (o : Ordering) → c a b ≡ o → c b a ≡ flip o
      go Ordering.lt h = O.greater h
      go Ordering.eq h = ap (λ (x : A). c b x) (O.equal h) ∙ O.same b
      go Ordering.gt h = O.less h

  then-trans : (x y z : A) (p q r : Ordering) → (p ≡ Ordering.lt → q ≡ Ordering.lt → r ≡ Ordering.lt)
      → lex (c x y) p ≡ Ordering.lt → lex (c y z) q ≡ Ordering.lt → lex (c x z) r ≡ Ordering.lt
  then-trans x y z p q r k h i = go (c x y) (c y z) refl refl h i
    where
      go : (o s : Ordering) → c x y ≡ o → c y z ≡ s → lex o p ≡ Ordering.lt → lex s q ≡ Ordering.lt → lex (c x z) r ≡ Ordering.lt
      go Ordering.lt Ordering.lt f g h i = rw (O.trans f g)
      go Ordering.lt Ordering.eq f g h i = let e : c x z ≡ Ordering.lt = ap (c x) (sym (O.equal g)) ∙ f in rw e
      go Ordering.lt Ordering.gt f g h i = cc
      go Ordering.eq Ordering.lt f g h i = let e : c x z ≡ Ordering.lt = ap (λ (a : A). c a z) (O.equal f) ∙ g in rw e
      go Ordering.eq Ordering.eq f g h i = let e : c x z ≡ Ordering.eq = ap (λ (a : A). c a z) (O.equal f) ∙ g in rw e (k h i)
      go Ordering.eq Ordering.gt f g h i = cc
      go Ordering.gt s f g h i = cc

  list_same : (l : List A) → compare_list c l l ≡ Ordering.eq
  list_same [] = refl
  list_same (x ∷ xs) = rw (O.same x) (list_same xs)

  list_equal : (l m : List A) → compare_list c l m ≡ Ordering.eq → l ≡ m
  list_equal [] [] h = refl
  list_equal [] (y ∷ ys) h = cc
  list_equal (x ∷ xs) [] h = cc
  list_equal (x ∷ xs) (y ∷ ys) h =
      let (f, g) = then-eq (c x y) (compare_list c xs ys) h in
      ap (λ (a : A). a ∷ xs) (O.equal f) ∙ ap (λ (l : List A). y ∷ l) (list_equal xs ys g)

  list_flip : (l m : List A) → compare_list c m l ≡ flip (compare_list c l m)
  list_flip [] [] = refl
  list_flip [] (y ∷ ys) = refl
  list_flip (x ∷ xs) [] = refl
  list_flip (x ∷ xs) (y ∷ ys) =
      ap (λ (o : Ordering). lex o (compare_list c ys xs)) (flipped x y) ∙ ap (lex (flip (c x y))) (list_flip xs ys) ∙ sym (flip_then (c x y) (compare_list c xs ys))

  list_trans : (l m n : List A) → compare_list c l m ≡ Ordering.lt → compare_list c m n ≡ Ordering.lt → compare_list c l n ≡ Ordering.lt
  list_trans [] [] n h i = cc
  list_trans [] (y ∷ ys) [] h i = cc
  list_trans [] (y ∷ ys) (z ∷ zs) h i = refl
  list_trans (x ∷ xs) [] n h i = cc
  list_trans (x ∷ xs) (y ∷ ys) [] h i = cc
  list_trans (x ∷ xs) (y ∷ ys) (z ∷ zs) h i = then-trans x y z (compare_list c xs ys) (compare_list c ys zs) (compare_list c xs zs) (list_trans xs ys zs) h i

  pub list_order : Order (compare_list c)
  list_order = order_of_lem (compare_list c) list_same list_equal list_flip list_trans

module _ {A B : Type 0} (c : A → A → Ordering) (d : B → B → Ordering) (O : Order c) (P : Order d) where
  pub pair-order : Order (compare_pair c d)
  pair-order = order_of_lem (compare_pair c d) same equal flip_pair trans
    where
      same : (p : A × B) → compare_pair c d p p ≡ Ordering.eq
      same p = rw (O.same p.0, P.same p.1)

      equal : (p q : A × B) → compare_pair c d p q ≡ Ordering.eq → p ≡ q
      equal p q h =
          let (f, g) = then-eq (c p.0 q.0) (d p.1 q.1) h in
          λ i. (O.equal f i, P.equal g i)

      flip_pair : (p q : A × B) → compare_pair c d q p ≡ flip (compare_pair c d p q)
      flip_pair p q =
          ap (λ (o : Ordering). lex o (d q.1 p.1)) (flipped c O p.0 q.0)
          ∙ ap (lex (flip (c p.0 q.0))) (flipped d P p.1 q.1)
          ∙ sym (flip_then (c p.0 q.0) (d p.1 q.1))

      trans : (p q r : A × B) → compare_pair c d p q ≡ Ordering.lt → compare_pair c d q r ≡ Ordering.lt → compare_pair c d p r ≡ Ordering.lt
      trans p q r h i = then-trans c O p.0 q.0 r.0 (d p.1 q.1) (d q.1 r.1) (d p.1 r.1) (λ s t. P.trans s t) h i

-- compared through a code that tells all apart
pub code-order : {A B : Type 0} (f : A → B) (c : B → B → Ordering) → ((a b : A) → f a ≡ f b → a ≡ b) → Order c → Order (λ a b. c (f a) (f b))
code-order f c inj O =
    record {
      same = λ a. O.same (f a);
      equal = λ {a} {b} h. inj a b (O.equal h);
      less = λ {a} {b} h. O.less h;
      greater = λ {a} {b} h. O.greater h;
      trans = λ {a} {b} {c} h i. O.trans h i;
    }
