-- A text's lines: the next line is what comes before the next byte 10. Assumes nothing.
use Prim.Native.Nat.{ℕ, suc, ◌+◌, ◌≤◌, ◌<◌}
use native.Mathlib.Omega.{arith}
use native.Mathlib.Numerals.{add-one}
use mathlib.Core.Path.{◌≡◌, refl, sym, ap, ◌∙◌}
use mathlib.Core.Logic.{◌⊎◌, inl, inr}
use mathlib.Core.Bool.{Bool, true, false}
use mathlib.Core.List.{List, [], ◌∷◌, ◌++◌}
use lib.Dec.{eqb}
use lib.ListN.{length, drop}
use borrow.Author.Tests.{eqb-true}
use Rattle.std.specs.Prelude.{if◌then◌else◌}
use Rattle.model.specs.Bytes.{Bytes, newline, before, split, Free}
use Rattle.model.specs.Reading.{without_empty_last, lines}
use Rattle.model.proofs.TextLaws.{lines_seam}
use Rattle.compare.proofs.SplitLaws.{split-free}
use Rattle.scan.proofs.ByteLaws.{drop-end}

-- ---- what comes before a separator

before-free : (sep : ℕ) (xs : Bytes) → Free sep (before sep xs)
unfolding before
before-free sep [] = tt
before-free sep (b ∷ bs) = go (eqb b sep) refl (before-free sep bs)
  where
    go : (t : Bool) → eqb b sep ≡ t → Free sep (before sep bs) → Free sep (if t then [] else b ∷ before sep bs)
    go true e f = tt
    go false e f = (e, f)

-- a list is what comes before the first separator, or that, the separator and the rest
abbrev Parted : ℕ → Bytes → Bytes → Type 0
Parted sep xs p = (p ≡ xs) ⊎ ((ys : Bytes) × (xs ≡ p ++ sep ∷ ys))

parted : (sep : ℕ) (xs : Bytes) → Parted sep xs (before sep xs)
unfolding before
parted sep [] = inl refl
parted sep (b ∷ bs) = go (eqb b sep) refl (parted sep bs)
  where
    go : (t : Bool) → eqb b sep ≡ t → Parted sep bs (before sep bs) → Parted sep (b ∷ bs) (if t then [] else b ∷ before sep bs)
    go true e d = inr (bs, ap (λ (x : ℕ). x ∷ bs) (eqb-true b sep e))
    go false e (inl h) = inl (ap (λ (l : Bytes). b ∷ l) h)
    go false e (inr (ys, h)) = inr (ys, ap (λ (l : Bytes). b ∷ l) h)

-- ---- lines

-- a text without byte 10 is one line, if it is not empty
lines-last : (xs : Bytes) → 0 < length xs → Free newline xs → lines xs ≡ xs ∷ []
unfolding lines without_empty_last
lines-last [] h f = absurd (omega arith)
lines-last (b ∷ bs) h f = rw (split-free newline (b ∷ bs) f)

-- past its end a text has no lines
pub lines_none : (xs : Bytes) (i : ℕ) → length xs ≤ i → [] ≡ lines (drop i xs)
unfolding lines split without_empty_last
lines_none xs i h = rw (drop-end xs i h)

-- THE NEXT LINE, and the lines of what is left
pub lines_cut : (xs : Bytes) → 0 < length xs → lines xs ≡ before newline xs ∷ lines (drop (length (before newline xs) + 1) xs)
lines_cut xs h = go (before newline xs) (before-free newline xs) (parted newline xs)
  where
    go : (p : Bytes) → Free newline p → Parted newline xs p → lines xs ≡ p ∷ lines (drop (length p + 1) xs)
    go p f (inl e) =
        let g : Free newline xs = rw e at f in
        lines-last xs h g ∙ ap (λ (l : Bytes). l ∷ []) (sym e) ∙ ap (λ (ls : List Bytes). p ∷ ls) (lines_none xs (length p + 1) (omega (arith, ap length e)))
    go p f (inr (ys, e)) =
        rw (e, add-one (length p)) (lines_seam p ys f ∙ ap (λ (l : Bytes). p ∷ lines l) (sym (past p ys)))
      where
        past : (p ys : Bytes) → drop (suc (length p)) (p ++ newline ∷ ys) ≡ ys
        past [] ys = refl
        past (x ∷ p) ys = past p ys
