-- What the pieces of a path are as components, and how components compare. Assumes nothing.
use mathlib.Core.Path.{◌≡◌, refl, sym, ap, ap₂, ◌∙◌}
use mathlib.Core.Logic.{◌≢◌}
use mathlib.Core.Bool.{Bool, true, false}
use mathlib.Core.List.{List, [], ◌∷◌, ◌++◌}
use Prim.Native.Nat.{ℕ, compare, Ordering}
use native.Mathlib.Omega.{arith}
use lib.Dec.{ltb}
use lib.ListN.{length}
use Rattle.ordmap.proofs.Results.{impossible}
use Rattle.model.specs.Order.{lex}
use Rattle.std.specs.Prelude.{if◌then◌else◌}
use Rattle.model.specs.Bytes.{Bytes, ascii, compare_bytes, same_bytes}
use Rattle.model.specs.Path.{Path, Component, root, current, parent, name, code, named, leading}
use Rattle.model.proofs.KeyOrder.{bytes_same}
use Rattle.compare.specs.Pieces.{dot, component_of, rank_of}

-- ---- one piece and those behind it

-- a component by the tests for "." and ".."
abbrev tested : Bool → Bool → Bytes → Component
tested t u piece = if t then current else if u then parent else name piece

pub named-piece : (piece : Bytes) (pieces : List Bytes)
    → named (piece ∷ pieces) ≡ (if ltb 1 (rank_of (component_of piece)) then component_of piece ∷ named pieces else named pieces)
unfolding named
named-piece [] pieces = refl
named-piece (b ∷ bs) pieces = go (same_bytes (b ∷ bs) (ascii ".")) (same_bytes (b ∷ bs) (ascii ".."))
  where
    go : (t u : Bool) → (if t then named pieces else if u then parent ∷ named pieces else name (b ∷ bs) ∷ named pieces)
        ≡ (if ltb 1 (rank_of (tested t u (b ∷ bs))) then tested t u (b ∷ bs) ∷ named pieces else named pieces)
    go true u = refl
    go false true = refl
    go false false = refl

-- the first piece is a component, unless it is empty and the only one
pub first_piece : (piece : Bytes) (pieces : List Bytes) → (piece ≡ [] → pieces ≢ [])
    → leading (piece ∷ pieces) ++ named (piece ∷ pieces) ≡ component_of piece ∷ named pieces
unfolding named leading
first_piece [] [] h = absurd (h refl refl)
first_piece [] (p ∷ ps) h = refl
first_piece (b ∷ bs) pieces h = go (same_bytes (b ∷ bs) (ascii ".")) (same_bytes (b ∷ bs) (ascii ".."))
  where
    go : (t u : Bool)
        → (if t then current ∷ [] else []) ++ (if t then named pieces else if u then parent ∷ named pieces else name (b ∷ bs) ∷ named pieces)
        ≡ tested t u (b ∷ bs) ∷ named pieces
    go true u = refl
    go false true = refl
    go false false = refl

pub named-append : (l m : List Bytes) → named (l ++ m) ≡ named l ++ named m
unfolding named
named-append [] m = refl
named-append ([] ∷ ps) m = named-append ps m
named-append ((b ∷ bs) ∷ ps) m = go (same_bytes (b ∷ bs) (ascii ".")) (same_bytes (b ∷ bs) (ascii "..")) (named-append ps m)
  where
    go : (t u : Bool) → named (ps ++ m) ≡ named ps ++ named m
        → (if t then named (ps ++ m) else if u then parent ∷ named (ps ++ m) else name (b ∷ bs) ∷ named (ps ++ m))
        ≡ (if t then named ps else if u then parent ∷ named ps else name (b ∷ bs) ∷ named ps) ++ named m
    go true u ih = ih
    go false true ih = ap (λ (p : Path). parent ∷ p) ih
    go false false ih = ap (λ (p : Path). name (b ∷ bs) ∷ p) ih

-- the components at the front of a path are decided by what comes before a slash
pub leading-append : (l m : List Bytes) → l ≢ [] → m ≢ [] → leading (l ++ m) ≡ leading (l ++ ([] ∷ []))
unfolding leading
leading-append [] m h k = absurd (h refl)
leading-append ([] ∷ []) [] h k = absurd (k refl)
leading-append ([] ∷ []) (q ∷ qs) h k = refl
leading-append ([] ∷ p ∷ ps) m h k = refl
leading-append ((b ∷ bs) ∷ ps) m h k = refl

-- ---- a piece that has a byte other than dots

-- all bytes are dots
abbrev Dots : Bytes → Type 0
Dots [] = Unit {0}
Dots (b ∷ bs) = (b ≡ dot) × Dots bs

dots_at : (u : Bytes) (c : ℕ) (y : Bytes) → Dots (u ++ c ∷ y) → c ≡ dot
dots_at [] c y δ = δ.0
dots_at (b ∷ u) c y δ = dots_at u c y δ.1

not_dots : (u : Bytes) (c : ℕ) (y dots : Bytes) → c ≢ dot → Dots dots → same_bytes (u ++ c ∷ y) dots ≡ false
not_dots u c y dots h δ = go (same_bytes (u ++ c ∷ y) dots) refl
  where
    as_dots : (l : Bytes) → l ≡ dots → Dots l
    as_dots l e = rw e δ

    go : (t : Bool) → same_bytes (u ++ c ∷ y) dots ≡ t → t ≡ false
    go true e = absurd (h (dots_at u c y (as_dots (u ++ c ∷ y) (bytes_same.same_eq (u ++ c ∷ y) dots e))))
    go false e = refl

tested_name : (t u : Bool) (piece : Bytes) → t ≡ false → u ≡ false → tested t u piece ≡ name piece
tested_name t u piece e f = rw (e, f)

is_name : (u : Bytes) (c : ℕ) (y : Bytes) → c ≢ dot → component_of (u ++ c ∷ y) ≡ name (u ++ c ∷ y)
is_name [] c y h =
    tested_name _ _ (c ∷ y) (not_dots [] c y (ascii ".") h (refl, tt)) (not_dots [] c y (ascii "..") h (refl, (refl, tt)))
is_name (b ∷ u) c y h =
    tested_name _ _ (b ∷ (u ++ c ∷ y)) (not_dots (b ∷ u) c y (ascii ".") h (refl, tt)) (not_dots (b ∷ u) c y (ascii "..") h (refl, (refl, tt)))

module _ (u : Bytes) (c : ℕ) (y : Bytes) (h : c ≢ dot) (pieces : List Bytes) where
  pub named-name : named ((u ++ c ∷ y) ∷ pieces) ≡ name (u ++ c ∷ y) ∷ named pieces
  named-name =
      named-piece (u ++ c ∷ y) pieces
      ∙ ap (λ (k : Component). if ltb 1 (rank_of k) then k ∷ named pieces else named pieces) (is_name u c y h)

  pub first-name : leading ((u ++ c ∷ y) ∷ pieces) ++ named ((u ++ c ∷ y) ∷ pieces) ≡ name (u ++ c ∷ y) ∷ named pieces
  first-name =
      first_piece (u ++ c ∷ y) pieces (λ e. let z : root ≡ name (u ++ c ∷ y) = sym (ap component_of e) ∙ is_name u c y h in impossible cc)
      ∙ ap (λ (k : Component). k ∷ named pieces) (is_name u c y h)

-- ---- ranks

module _ (piece : Bytes) where
  pub rank_empty : length piece ≡ 0 → 0 ≡ rank_of (component_of piece)
  rank_empty e = go piece e
    where
      go : (p : Bytes) → length p ≡ 0 → 0 ≡ rank_of (component_of p)
      go [] e = refl
      go (b ∷ bs) e = absurd (omega arith)

  module _ (d : length piece ≢ 0) (t : Bool) (h : t ≡ same_bytes piece (ascii ".")) where
    by_tests : component_of piece ≡ tested t (same_bytes piece (ascii "..")) piece
    by_tests = go piece d ∙ ap (λ (t : Bool). tested t (same_bytes piece (ascii "..")) piece) (sym h)
      where
        go : (p : Bytes) → length p ≢ 0 → component_of p ≡ tested (same_bytes p (ascii ".")) (same_bytes p (ascii "..")) p
        go [] d = absurd (d refl)
        go (b ∷ bs) d = refl

    pub rank_current : t ≡ true → 1 ≡ rank_of (component_of piece)
    rank_current e = sym (ap rank_of by_tests ∙ rw e)

    module _ (e : t ≡ false) (u : Bool) (k : u ≡ same_bytes piece (ascii "..")) where
      pub rank_parent : u ≡ true → 2 ≡ rank_of (component_of piece)
      rank_parent f = sym (ap rank_of by_tests ∙ rw (e, ← k, f))

      pub rank_name : u ≡ false → 3 ≡ rank_of (component_of piece)
      rank_name f = sym (ap rank_of by_tests ∙ rw (e, ← k, f))

-- ---- components compared

abbrev spelling : Component → Bytes
spelling root = []
spelling current = ascii "."
spelling parent = ascii ".."
spelling (name bytes) = bytes

spelled : (piece : Bytes) → piece ≡ spelling (component_of piece)
spelled [] = refl
spelled (b ∷ bs) = go (same_bytes (b ∷ bs) (ascii ".")) refl (same_bytes (b ∷ bs) (ascii "..")) refl
  where
    go : (t : Bool) → same_bytes (b ∷ bs) (ascii ".") ≡ t → (u : Bool) → same_bytes (b ∷ bs) (ascii "..") ≡ u
        → b ∷ bs ≡ spelling (tested t u (b ∷ bs))
    go true e u f = bytes_same.same_eq (b ∷ bs) (ascii ".") e
    go false e true f = bytes_same.same_eq (b ∷ bs) (ascii "..") f
    go false e false f = refl

coded : (c d : Component) → lex (compare (rank_of c) (rank_of d)) (compare_bytes (spelling c) (spelling d)) ≡ compare_bytes (code c) (code d)
unfolding compare_bytes code
coded root root = refl
coded root current = refl
coded root parent = refl
coded root (name y) = refl
coded current root = refl
coded current current = refl
coded current parent = refl
coded current (name y) = refl
coded parent root = refl
coded parent current = refl
coded parent parent = refl
coded parent (name y) = refl
coded (name x) root = refl
coded (name x) current = refl
coded (name x) parent = refl
coded (name x) (name y) = refl

pub by_ranks : (x y : Bytes) (i j : ℕ) (k l o : Ordering)
    → i ≡ rank_of (component_of x) → j ≡ rank_of (component_of y) → k ≡ compare i j → l ≡ compare_bytes x y
    → o ≡ lex k l → o ≡ compare_bytes (code (component_of x)) (code (component_of y))
by_ranks x y i j k l o p q r s e =
    e ∙ ap₂ lex (r ∙ ap₂ compare p q) (s ∙ ap₂ compare_bytes (spelled x) (spelled y)) ∙ coded (component_of x) (component_of y)
