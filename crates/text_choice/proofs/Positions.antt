-- Laws of tests over the numbers from a on: all pass, some passes, the first that passes, how often a value comes, and which texts are chosen. A
-- loop over the texts of a bundle meets the definitions by these. Assumes nothing.
use Prim.Native.Nat.{ℕ, zero, suc, ◌+◌, ◌≤◌, ◌<◌}
use native.Mathlib.Omega.{arith}
use mathlib.Core.Path.{◌≡◌, refl, sym, ap, ◌∙◌}
use mathlib.Core.Bool.{Bool, true, false, cond, ◌||◌}
use mathlib.Core.List.Memᴰ.{head as here}
use mathlib.Core.List.Memᴰ.{tail as there}
use mathlib.Core.List.{List, [], ◌∷◌, map, Memᴰ as Member}
use mathlib.Core.Option.{none, some}
use lib.Dec.{eqb}
use borrow.Author.Tests.{eqb-true, eqb-false}
use Rattle.ordmap.specs.Gathering.{times, Same}
use Rattle.ordmap.proofs.Results.{impossible}
use Rattle.ordmap.proofs.Maps.{some≢none}
use Rattle.std.specs.Prelude.{if◌then◌else◌}
use Rattle.model.specs.Lists.{filter, all, any, from}
use Rattle.model.specs.Bundle.{Text}
use Rattle.model.proofs.ListLaws.{all-each, each_all, from_member, member_from}
use Rattle.text_choice.specs.Choice.{choose_texts}
use Rattle.text_choice.specs.RevisionBundle.{first_of}

-- ---- Bool

pub not_true : (b : Bool) → (b ≡ true → ⊥) → b ≡ false
not_true true h = absurd (h refl)
not_true false h = refl

pub not_both : {b : Bool} → b ≡ true → b ≡ false → ⊥
not_both p q = impossible cc

pub bool_both : (a b : Bool) → (a ≡ true → b ≡ true) → (b ≡ true → a ≡ true) → a ≡ b
bool_both true b f g = sym (f refl)
bool_both false true f g = g refl
bool_both false false f g = refl

-- ---- all and some

below_member : (n k : ℕ) → k < n → Member k (from 0 n)
below_member n k l = from_member 0 n k (omega arith) (omega arith)

member_below : (n : ℕ) {k : ℕ} → Member k (from 0 n) → k < n
member_below n i = omega (arith, (member_from 0 n i).1)

module _ (test : ℕ → Bool) (n : ℕ) where
  pub below_all : ((k : ℕ) → k < n → test k ≡ true) → all test (from 0 n) ≡ true
  below_all h = each_all test (from 0 n) (λ k i. h k (member_below n i))

  pub all-below : all test (from 0 n) ≡ true → (k : ℕ) → k < n → test k ≡ true
  all-below p k l = all-each test (from 0 n) p k (below_member n k l)

  -- one that fails
  pub below_not_all : (k : ℕ) → k < n → test k ≡ false → all test (from 0 n) ≡ false
  below_not_all k l e = not_true (all test (from 0 n)) (λ p. not_both (all-below p k l) e)

any-each : {A : Type 0} (test : A → Bool) (l : List A) → any test l ≡ true → (a : A) × Member a l × (test a ≡ true)
unfolding any
any-each test [] p = impossible cc
any-each test (x ∷ xs) p = go (test x) refl p (any-each test xs)
  where
    past : (a : _) × Member a xs × (test a ≡ true) → (a : _) × Member a (x ∷ xs) × (test a ≡ true)
    past (a, i, h) = (a, there i, h)

    go : (b : Bool) → test x ≡ b → (b || any test xs) ≡ true → (any test xs ≡ true → (a : _) × Member a xs × (test a ≡ true))
        → (a : _) × Member a (x ∷ xs) × (test a ≡ true)
    go true e p ih = (x, here refl, e)
    go false e p ih = past (ih p)

each-any : {A : Type 0} (test : A → Bool) (l : List A) (a : A) → Member a l → test a ≡ true → any test l ≡ true
unfolding any
each-any {A = A} test [] a x'' e = elim x'' [ ]
each-any test (x ∷ xs) a (here h) e = let f : test x ≡ true = ap test (sym h) ∙ e in rw f
each-any test (x ∷ xs) a (there i) e = go (test x) (each-any test xs a i e)
  where
    go : (b : Bool) → any test xs ≡ true → (b || any test xs) ≡ true
    go true p = refl
    go false p = p

module _ (test : ℕ → Bool) (n : ℕ) where
  pub any_below : any test (from 0 n) ≡ true → (k : ℕ) × (k < n) × (test k ≡ true)
  any_below p = let (k, i, e) = any-each test (from 0 n) p in (k, member_below n i, e)

  pub below-any : (k : ℕ) → k < n → test k ≡ true → any test (from 0 n) ≡ true
  below-any k l e = each-any test (from 0 n) k (below_member n k l) e

  pub below_not_any : ((k : ℕ) → k < n → test k ≡ false) → any test (from 0 n) ≡ false
  below_not_any h = not_true (any test (from 0 n)) (λ p. let (k, l, e) = any_below p in not_both e (h k l))

-- ---- the first

module _ (test : ℕ → Bool) where
  pub first_some : (a n : ℕ) {i : ℕ} → first_of test (from a n) ≡ some i
      → (i < a + n) × (test i ≡ true) × ((k : ℕ) → a ≤ k → k < i → test k ≡ false)
  unfolding from first_of
  first_some a zero p = absurd (some≢none (sym p))
  first_some a (suc n) {i} p = go (test a) refl p (λ q. first_some (suc a) n q)
    where
      go : (b : Bool) → test a ≡ b → (if b then some a else first_of test (from (suc a) n)) ≡ some i
          → (first_of test (from (suc a) n) ≡ some i → (i < suc a + n) × (test i ≡ true) × ((k : ℕ) → suc a ≤ k → k < i → test k ≡ false))
          → (i < a + suc n) × (test i ≡ true) × ((k : ℕ) → a ≤ k → k < i → test k ≡ false)
      go true e q ih =
          let f : a ≡ i = cc in
          (omega arith, ap test (sym f) ∙ e, λ k l m. absurd (omega arith))
      go false e q ih =
          let (l, t, before) = ih q in
          (omega arith, t, λ k m u. at k (eqb k a) refl m (λ o. before k o u))
        where
          at : (k : ℕ) (b : Bool) → eqb k a ≡ b → a ≤ k → (suc a ≤ k → test k ≡ false) → test k ≡ false
          at k true f m rest = ap test (eqb-true k a f) ∙ e
          at k false f m rest = rest (omega (arith, eqb-false k a f))

  pub some_first : (a n i : ℕ) → a ≤ i → i < a + n → test i ≡ true → ((k : ℕ) → a ≤ k → k < i → test k ≡ false) → first_of test (from a n) ≡ some i
  unfolding from first_of
  some_first a zero i l m e before = absurd (omega arith)
  some_first a (suc n) i l m e before = go (eqb a i) refl (λ o. some_first (suc a) n i o (omega arith) e (λ k u v. before k (omega arith) v))
    where
      go : (b : Bool) → eqb a i ≡ b → (suc a ≤ i → first_of test (from (suc a) n) ≡ some i) → (if test a then some a else first_of test (from (suc a) n)) ≡ some i
      go true f ih = let same : a ≡ i = eqb-true a i f in rw (same, e)
      go false f ih =
          let up : suc a ≤ i = omega (arith, eqb-false a i f) in
          rw (before a (omega arith) up) (ih up)

  pub first-none : (a n : ℕ) → first_of test (from a n) ≡ none → (k : ℕ) → a ≤ k → k < a + n → test k ≡ false
  unfolding from first_of
  first-none a zero p k l m = absurd (omega arith)
  first-none a (suc n) p k l m = go (test a) refl p (λ q o. first-none (suc a) n q k o (omega arith))
    where
      go : (b : Bool) → test a ≡ b → (if b then some a else first_of test (from (suc a) n)) ≡ none
          → (first_of test (from (suc a) n) ≡ none → suc a ≤ k → test k ≡ false) → test k ≡ false
      go true e q ih = absurd (some≢none q)
      go false e q ih = at (eqb k a) refl
        where
          at : (b : Bool) → eqb k a ≡ b → test k ≡ false
          at true f = ap test (eqb-true k a f) ∙ e
          at false f = ih q (omega (arith, eqb-false k a f))

  pub none_first : (a n : ℕ) → ((k : ℕ) → a ≤ k → k < a + n → test k ≡ false) → first_of test (from a n) ≡ none
  unfolding from first_of
  none_first a zero h = refl
  none_first a (suc n) h = rw (h a (omega arith) (omega arith)) (none_first (suc a) n (λ k l m. h k (omega arith) (omega arith)))

-- ---- tests that agree

module _ (s t : ℕ → Bool) where
  pub all-agree : (a n : ℕ) → ((k : ℕ) → a ≤ k → k < a + n → s k ≡ t k) → all s (from a n) ≡ all t (from a n)
  unfolding from all
  all-agree a zero h = refl
  all-agree a (suc n) h = rw (h a (omega arith) (omega arith), all-agree (suc a) n (λ k l m. h k (omega arith) (omega arith)))

  pub any-agree : (a n : ℕ) → ((k : ℕ) → a ≤ k → k < a + n → s k ≡ t k) → any s (from a n) ≡ any t (from a n)
  unfolding from any
  any-agree a zero h = refl
  any-agree a (suc n) h = rw (h a (omega arith) (omega arith), any-agree (suc a) n (λ k l m. h k (omega arith) (omega arith)))

  pub first-agree : (a n : ℕ) → ((k : ℕ) → a ≤ k → k < a + n → s k ≡ t k) → first_of s (from a n) ≡ first_of t (from a n)
  unfolding from first_of
  first-agree a zero h = refl
  first-agree a (suc n) h = rw (h a (omega arith) (omega arith), first-agree (suc a) n (λ k l m. h k (omega arith) (omega arith)))

-- ---- chosen texts

module _ (test : ℕ → Bool) (text_at : ℕ → Text) where
  pub choose_none : (a : ℕ) → choose_texts test text_at a 0 ≡ []
  unfolding choose_texts filter from
  choose_none a = refl

  -- a loop's step: a text that is chosen, and one that is passed over
  pub choose_next : (a n : ℕ) → test a ≡ true → choose_texts test text_at a (suc n) ≡ text_at a ∷ choose_texts test text_at (suc a) n
  unfolding choose_texts filter from
  choose_next a n e = rw e

  pub choose_past : (a n : ℕ) → test a ≡ false → choose_texts test text_at a (suc n) ≡ choose_texts test text_at (suc a) n
  unfolding choose_texts filter from
  choose_past a n e = rw e

-- tests that agree, as one by the bits of a mask, and texts that agree where they are chosen
pub choose_agree : (s t : ℕ → Bool) (f g : ℕ → Text) (a n : ℕ) → ((k : ℕ) → a ≤ k → k < a + n → s k ≡ t k)
    → ((k : ℕ) → a ≤ k → k < a + n → s k ≡ true → f k ≡ g k) → choose_texts s f a n ≡ choose_texts t g a n
unfolding choose_texts filter from
choose_agree s t f g a zero h e = refl
choose_agree s t f g a (suc n) h e =
    go (s a) refl (choose_agree s t f g (suc a) n (λ k l m. h k (omega arith) (omega arith)) (λ k l m. e k (omega arith) (omega arith)))
  where
    go : (b : Bool) → s a ≡ b → choose_texts s f (suc a) n ≡ choose_texts t g (suc a) n → choose_texts s f a (suc n) ≡ choose_texts t g a (suc n)
    go true p ih =
        choose_next s f a n p
        ∙ (λ i. e a (omega arith) (omega arith) p i ∷ ih i)
        ∙ sym (choose_next t g a n (sym (h a (omega arith) (omega arith)) ∙ p))
    go false p ih = choose_past s f a n p ∙ ih ∙ sym (choose_past t g a n (sym (h a (omega arith) (omega arith)) ∙ p))

-- ---- how often a value comes

module _ {T : Type 0} (same : T → T → Bool) (S : Same same) (f : ℕ → T) where
  times_none : (x : T) (a n : ℕ) → ((k : ℕ) → a ≤ k → k < a + n → same x (f k) ≡ false) → times same x (map f (from a n)) ≡ 0
  unfolding from
  times_none x a zero h = refl
  times_none x a (suc n) h = rw (h a (omega arith) (omega arith)) (times_none x (suc a) n (λ k l m. h k (omega arith) (omega arith)))

  times_some : (x : T) (a n k : ℕ) → a ≤ k → k < a + n → same x (f k) ≡ true → 1 ≤ times same x (map f (from a n))
  unfolding from
  times_some x a zero k l m e = absurd (omega arith)
  times_some x a (suc n) k l m e = go (same x (f a)) refl (eqb k a) refl (λ o. times_some x (suc a) n k o (omega arith) e)
    where
      go : (b : Bool) → same x (f a) ≡ b → (c : Bool) → eqb k a ≡ c → (suc a ≤ k → 1 ≤ times same x (map f (from (suc a) n)))
          → 1 ≤ cond b (suc (times same x (map f (from (suc a) n)))) (times same x (map f (from (suc a) n)))
      go true p c q ih = omega arith
      go false p true q ih = absurd (not_both (ap (λ (i : ℕ). same x (f i)) (sym (eqb-true k a q)) ∙ e) p)
      go false p false q ih = ih (omega (arith, eqb-false k a q))

  -- values that all differ come once at most
  pub differ-once : (a n : ℕ) → ((j k : ℕ) → a ≤ j → j < k → k < a + n → same (f j) (f k) ≡ false) → (x : T) → times same x (map f (from a n)) ≤ 1
  unfolding from
  differ-once a zero h x = omega arith
  differ-once a (suc n) h x = go (same x (f a)) refl (differ-once (suc a) n (λ j k l m o. h j k (omega arith) m (omega arith)) x)
    where
      go : (b : Bool) → same x (f a) ≡ b → times same x (map f (from (suc a) n)) ≤ 1
          → cond b (suc (times same x (map f (from (suc a) n)))) (times same x (map f (from (suc a) n))) ≤ 1
      go true p ih =
          let z : times same x (map f (from (suc a) n)) ≡ 0 =
          times_none x (suc a) n (λ k l m. ap (λ (y : T). same y (f k)) (S.same_eq x (f a) p) ∙ h a k (omega arith) l (omega arith)) in
          omega arith
      go false p ih = ih

  pub once-differ : (a n : ℕ) → ((x : T) → times same x (map f (from a n)) ≤ 1)
      → (j k : ℕ) → a ≤ j → j < k → k < a + n → same (f j) (f k) ≡ true → ⊥
  unfolding from
  once-differ a zero h j k l m o e = absurd (omega arith)
  once-differ a (suc n) h j k l m o e = go (eqb j a) refl (λ g u. once-differ (suc a) n g j k u m (omega arith) e)
    where
      fewer : (x : T) (b : Bool) → cond b (suc (times same x (map f (from (suc a) n)))) (times same x (map f (from (suc a) n))) ≤ 1
          → times same x (map f (from (suc a) n)) ≤ 1
      fewer x true q = omega arith
      fewer x false q = q

      twice : (b : Bool) → b ≡ true → cond b (suc (times same (f a) (map f (from (suc a) n)))) (times same (f a) (map f (from (suc a) n))) ≤ 1
          → 1 ≤ times same (f a) (map f (from (suc a) n)) → ⊥
      twice true q r s = omega arith
      twice false q r s = impossible cc

      go : (b : Bool) → eqb j a ≡ b → (((x : T) → times same x (map f (from (suc a) n)) ≤ 1) → suc a ≤ j → ⊥) → ⊥
      go true p ih =
          let here-too : same (f a) (f k) ≡ true = ap (λ (i : ℕ). same (f i) (f k)) (sym (eqb-true j a p)) ∙ e in
          twice (same (f a) (f a)) (S.same_refl (f a)) (h (f a)) (times_some (f a) (suc a) n k (omega arith) (omega arith) here-too)
      go false p ih = ih (λ x. fewer x (same x (f a)) (h x)) (omega (arith, eqb-false j a p))
