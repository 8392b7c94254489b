-- Paths compared: one component after the other, and behind what both spell alike. Assumes nothing.
use mathlib.Core.Path.{◌≡◌, refl, sym, ap, ap₂, ◌∙◌}
use mathlib.Core.Bool.{true, false}
use mathlib.Core.List.{List, [], ◌∷◌, ◌++◌, append_assoc}
use Prim.Native.Nat.{ℕ, zero, suc, ◌+◌, ◌-◌, ◌≤◌, ◌<◌, Ordering}
use native.Mathlib.Omega.{arith}
use lib.Dec.{compare_is_eq}
use lib.ListN.{length, get_or, take, drop}
use lib.Seq.{split_at, take_all, take-take, get_or-take}
use Rattle.ordmap.proofs.Orderings.{is_eq}
use Rattle.model.specs.Order.{lex}
use Rattle.model.specs.Bytes.{Bytes, slash, split, compare_bytes}
use Rattle.model.specs.Path.{Path, Component, code, named, leading, components, compare_paths}
use Rattle.model.proofs.KeyOrder.{bytes-order, paths-order}
use Rattle.compare.specs.declared.path.Piece.{Piece}
use Rattle.std.specs.Prelude.{Option, Some, None}
use Rattle.compare.specs.Prefixes.{CommonPrefix}
use Rattle.compare.specs.Pieces.{piece, NameStart, component_of, components_from, found, NextComponent, none_against}
use Rattle.compare.proofs.CompareLaws.{alike-front}
use Rattle.compare.proofs.SplitLaws.{split_some, split_through}
use Rattle.compare.proofs.PlaceLaws.{past_slash}
use Rattle.compare.proofs.ComponentLaws.{named-append, leading-append}

-- ---- one component after the other

abbrev left : Bytes → Bytes → ℕ → ℕ → Ordering
left a b p q = compare_paths (components_from a p) (components_from b q)

abbrev codes : Bytes → Bytes → Ordering
codes x y = compare_bytes (code (component_of x)) (code (component_of y))

-- the components before p in a and before q in b are the same
pub record Level (a b : Bytes) (from p q : ℕ) : Type 0 where
  pub is : left a b from from ≡ left a b p q

pub level_start : (a b : Bytes) (from : ℕ) → Level a b from from from
level_start a b from = record { is = refl }

module _ {path : Bytes} {p : ℕ} {s : Piece} {x : Option Piece} (n : NextComponent path p x) (g : x ≡ Some s) where
  at_piece : NextComponent path p (Some s)
  at_piece = rw g at n

  pub at_order : s.start ≤ s.end
  at_order = at_piece.within.1

  pub at_most : s.end ≤ length path
  at_most = at_piece.within.2

  pub at_falls : length path + 1 - (s.end + 1) < length path + 1 - p
  at_falls = omega (arith, at_piece.within.0, at_piece.within.1, at_piece.within.2)

module _ {a b : Bytes} {from p q : ℕ} {x y : Option Piece} (ε : Level a b from p q) (n : NextComponent a p x) (m : NextComponent b q y) where
  here : compare_paths (found a x) (found b y) ≡ left a b from from
  here = sym (ε.is ∙ ap₂ compare_paths n.is m.is)

  pub left-none : x ≡ None → (o : Ordering) → o ≡ none_against y → o ≡ left a b from from
  unfolding compare_paths
  left-none g o h = h ∙ go y ∙ ap (λ (z : Option Piece). compare_paths (found a z) (found b y)) (sym g) ∙ here
    where
      go : (y : Option Piece) → none_against y ≡ compare_paths [] (found b y)
      go (Some p) = refl
      go None = refl

  module _ {s : Piece} (g : x ≡ Some s) where
    pub right-none : y ≡ None → Ordering.gt ≡ left a b from from
    unfolding compare_paths
    right-none h = ap₂ (λ (z w : Option Piece). compare_paths (found a z) (found b w)) (sym g) (sym h) ∙ here

    module _ {t : Piece} (h : y ≡ Some t) (o : Ordering) (k : o ≡ codes (piece a s.start s.end) (piece b t.start t.end)) where
      both : lex o (left a b (s.end + 1) (t.end + 1)) ≡ left a b from from
      unfolding compare_paths
      both =
          ap (λ (r : Ordering). lex r (left a b (s.end + 1) (t.end + 1))) k
          ∙ ap₂ (λ (z w : Option Piece). compare_paths (found a z) (found b w)) (sym g) (sym h) ∙ here

      pub left_on : compare_is_eq o ≡ true → Level a b from (s.end + 1) (t.end + 1)
      left_on r = record { is = sym (ap (λ (z : Ordering). lex z (left a b (s.end + 1) (t.end + 1))) (sym (is_eq o r)) ∙ both) }

      pub left-stop : compare_is_eq o ≡ false → o ≡ left a b from from
      left-stop r = go o r ∙ both
        where
          go : (o : Ordering) → compare_is_eq o ≡ false → o ≡ lex o (left a b (s.end + 1) (t.end + 1))
          go Ordering.lt h = refl
          go Ordering.eq h = cc
          go Ordering.gt h = refl

-- ---- what both spell alike

-- the components before a slash that follows xs
abbrev up_to : Bytes → Path
up_to xs = leading (split slash xs ++ ([] ∷ [])) ++ named (split slash xs)

through : (xs ys : Bytes) → components (xs ++ slash ∷ ys) ≡ up_to xs ++ named (split slash ys)
unfolding components
through xs ys =
    ap (λ (l : List Bytes). leading l ++ named l) (split_through slash xs ys)
    ∙ ap₂ (λ (l m : Path). l ++ m) (leading-append (split slash xs) (split slash ys) (split_some slash xs) (split_some slash ys))
    (named-append (split slash xs) (split slash ys))
    ∙ sym (append_assoc (leading (split slash xs ++ ([] ∷ []))) (named (split slash xs)) (named (split slash ys)))

pub alike_through : (xs ys zs : Bytes) → compare_paths (components (xs ++ slash ∷ ys)) (components (xs ++ slash ∷ zs))
    ≡ compare_paths (named (split slash ys)) (named (split slash zs))
unfolding compare_paths
alike_through xs ys zs =
    ap₂ compare_paths (through xs ys) (through xs zs)
    ∙ alike-front (λ (x y : Component). compare_bytes (code x) (code y)) (λ x. bytes-order.same (code x))
    (up_to xs) (named (split slash ys)) (named (split slash zs))

pub paths-equal : {a b : Bytes} {n : ℕ} → CommonPrefix 1 a b n → length a ≡ n → length b ≡ n
    → Ordering.eq ≡ compare_paths (components a) (components b)
paths-equal {a} {b} {n} σ h l =
    let same : a ≡ b = sym (take_all n a (omega arith)) ∙ σ.alike ∙ take_all n b (omega arith) in
    sym (ap (λ (x : Bytes). compare_paths (components a) (components x)) (sym same) ∙ paths-order.same (components a))

-- the piece behind the slash at place p
cut_at : (path : Bytes) (p : ℕ) → p < length path → get_or path p 0 ≡ slash → path ≡ take p path ++ slash ∷ drop (suc p) path
cut_at path p h e = split_at path p 0 h ∙ ap (λ (b : ℕ). take p path ++ b ∷ drop (suc p) path) e

pub skip_shared : {a b : Bytes} {n : ℕ} (p : ℕ) → CommonPrefix 1 a b n → NameStart a n p
    → (o : Ordering) → o ≡ left a b p p → o ≡ compare_paths (components a) (components b)
skip_shared zero σ ν o h = h
skip_shared {a} {b} {n} (suc p) σ ν o h =
    h ∙ ap₂ compare_paths (past_slash a p in_a) (past_slash b p in_b)
    ∙ sym (ap₂ (λ (x y : Bytes). compare_paths (components x) (components y)) (cut_at a p in_a slashed) b_cut
    ∙ alike_through (take p a) (drop (suc p) a) (drop (suc p) b))
  where
    in_a : p < length a
    in_a = omega (arith, ν.most, σ.left)

    in_b : p < length b
    in_b = omega (arith, ν.most, σ.right)

    slashed : get_or a p 0 ≡ slash
    slashed = let q : suc p - 1 ≡ p = omega arith in rw q at (ν.slashed (omega arith))

    same-front : take p a ≡ take p b
    same-front = sym (take-take p n a (omega (arith, ν.most))) ∙ ap (take p) σ.alike ∙ take-take p n b (omega (arith, ν.most))

    same_byte : get_or a p 0 ≡ get_or b p 0
    same_byte = sym (get_or-take n a p 0 ν.most) ∙ ap (λ (l : Bytes). get_or l p 0) σ.alike ∙ get_or-take n b p 0 ν.most

    b_cut : b ≡ take p a ++ slash ∷ drop (suc p) b
    b_cut = cut_at b p in_b (sym same_byte ∙ slashed) ∙ ap (λ (xs : Bytes). xs ++ slash ∷ drop (suc p) b) (sym same-front)
