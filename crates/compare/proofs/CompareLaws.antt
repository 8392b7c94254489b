-- Comparisons of numbers, of lists that begin alike, and of byte strings behind their common prefix. Assumes nothing.
use mathlib.Core.Path.{◌≡◌, refl, sym, ap, ap₂, ◌∙◌}
use mathlib.Core.Logic.{◌≢◌}
use mathlib.Core.Bool.{Bool, true, false}
use mathlib.Core.List.{List, [], ◌∷◌, ◌++◌}
use Prim.Native.Nat.{ℕ, suc, ◌≤◌, ◌<◌, compare, Ordering}
use native.Mathlib.Omega.{arith}
use borrow.Author.Tests.{ltb-true, ltb-false, le-leb, lt-leb, eq-eqb, ne_eqb}
use lib.Dec.{ltb, is_le, compare_is_eq}
use lib.ListN.{length, get_or, take, drop, take-append-drop, drop_of_length-le}
use lib.Seq.{drop-cons}
use Rattle.ordmap.specs.Compare.{lex, compare_list}
use Rattle.ordmap.proofs.Orderings.{is_eq, number-order}
use Rattle.model.specs.Bytes.{Bytes, compare_bytes, same_bytes}
use Rattle.model.proofs.KeyOrder.{bytes_same}
use Rattle.compare.specs.Prefixes.{CommonPrefix}
use Rattle.compare.proofs.PrefixLaws.{one_at}

-- ---- numbers

pub number-less : {a b : ℕ} → a < b → Ordering.lt ≡ compare a b
number-less {a} {b} h = go (compare a b) (le-leb a b (omega arith)) (ne_eqb a b (λ e. omega arith))
  where
    go : (o : Ordering) → is_le o ≡ true → compare_is_eq o ≡ false → Ordering.lt ≡ o
    go Ordering.lt e f = refl
    go Ordering.eq e f = cc
    go Ordering.gt e f = cc

pub number-greater : {a b : ℕ} → b < a → Ordering.gt ≡ compare a b
number-greater {a} {b} h = go (compare a b) (lt-leb a b h)
  where
    go : (o : Ordering) → is_le o ≡ false → Ordering.gt ≡ o
    go Ordering.lt e = cc
    go Ordering.eq e = cc
    go Ordering.gt e = refl

pub number-equal : {a b : ℕ} → b ≤ a → a ≤ b → Ordering.eq ≡ compare a b
number-equal {a} {b} h l = sym (is_eq (compare a b) (eq-eqb a b (omega arith)))

-- ---- lists

-- what two lists begin with alike does not decide
pub alike-front : {A : Type 0} (c : A → A → Ordering) → ((x : A) → c x x ≡ Ordering.eq) → (k l m : List A)
    → compare_list c (k ++ l) (k ++ m) ≡ compare_list c l m
alike-front c same [] l m = refl
alike-front c same (x ∷ k) l m = rw (same x) (alike-front c same k l m)

-- ---- byte strings compared

module _ {a b : Bytes} {n : ℕ} (σ : CommonPrefix 1 a b n) where
  past_prefix : compare_bytes a b ≡ compare_bytes (drop n a) (drop n b)
  unfolding compare_bytes
  past_prefix =
      ap₂ compare_bytes (sym (take-append-drop n a)) (sym (ap (λ (t : Bytes). t ++ drop n b) σ.alike ∙ take-append-drop n b))
      ∙ alike-front compare number-order.same (take n a) (drop n a) (drop n b)

  pub bytes_prefix : (o : Ordering) → n ≡ length a → o ≡ compare n (length b) → o ≡ compare_bytes a b
  unfolding compare_bytes
  bytes_prefix o h e =
      let all : length a ≤ n = omega arith in
      e ∙ go (ltb n (length b)) refl ∙ sym (past_prefix ∙ ap (λ (t : Bytes). compare_bytes t (drop n b)) (drop_of_length-le a all))
    where
      go : (t : Bool) → ltb n (length b) ≡ t → compare n (length b) ≡ compare_bytes [] (drop n b)
      go true t = let l : n < length b = ltb-true n (length b) t in rw (← (number-less l), drop-cons b n 0)
      go false t =
          let l : length b ≤ n = ltb-false n (length b) t in
          rw (← (number-equal l σ.right), drop_of_length-le b l)

  pub bytes_longer : n ≢ length a → n ≡ length b → Ordering.gt ≡ compare_bytes a b
  unfolding compare_bytes
  bytes_longer h l =
      let more : n < length a = omega (arith, σ.left) in
      let all : length b ≤ n = omega arith in
      sym (past_prefix ∙ rw (drop-cons a n 0, drop_of_length-le b all))

  pub bytes-differ : (o : Ordering) → n ≢ length a → n ≢ length b → o ≡ compare (get_or a n 0) (get_or b n 0) → o ≡ compare_bytes a b
  unfolding compare_bytes
  bytes-differ o h l e = go o e ∙ sym (past_prefix ∙ rw (drop-cons a n 0 in_a, drop-cons b n 0 in_b))
    where
      in_a : n < length a
      in_a = omega (arith, σ.left)

      in_b : n < length b
      in_b = omega (arith, σ.right)

      rest : Ordering
      rest = compare_list compare (drop (suc n) a) (drop (suc n) b)

      go : (o : Ordering) → o ≡ compare (get_or a n 0) (get_or b n 0) → o ≡ lex (compare (get_or a n 0) (get_or b n 0)) rest
      go Ordering.lt e = rw (sym e)
      go Ordering.eq e =
          absurd (σ.differ (omega (arith, in_a)) (omega (arith, in_b))
          (one_at a n in_a ∙ ap (λ (x : ℕ). x ∷ []) (number-order.equal (sym e)) ∙ sym (one_at b n in_b)))
      go Ordering.gt e = rw (sym e)

pub unlike_lengths : (a b : Bytes) → length a ≢ length b → false ≡ same_bytes a b
unlike_lengths a b d = go (same_bytes a b) refl
  where
    go : (t : Bool) → same_bytes a b ≡ t → false ≡ t
    go true e = absurd (d (ap length (bytes_same.same_eq a b e)))
    go false e = refl
