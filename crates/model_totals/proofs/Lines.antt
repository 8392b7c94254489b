-- Bytes that are lines, byte 10 after each: cut at each byte 10 they are those lines again. Assumes nothing.
use Prim.Native.Nat.{ℕ}
use native.Mathlib.Omega.{arith}
use mathlib.Core.Path.{◌≡◌, refl, ap, ◌∙◌}
use mathlib.Core.List.{List, [], ◌∷◌, ◌++◌, map, append_assoc}
use Rattle.model.specs.Lists.{concat_map}
use Rattle.model.specs.Bytes.{Bytes, newline, Free}
use Rattle.model.specs.Number.{decimal}
use Rattle.model.specs.Reading.{lines}
use Rattle.model.proofs.ListLaws.{All}
use Rattle.model.proofs.LineLaws.{decimal-digits, digits-free}
use Rattle.model.proofs.TextLaws.{lines_seam}

module _ {A : Type 0} (f : A → Bytes) where
  pub lines-before : (l : List A) (rest : Bytes) → All (λ a. Free newline (f a)) l
      → lines (concat_map (λ a. f a ++ newline ∷ []) l ++ rest) ≡ map f l ++ lines rest
  unfolding concat_map
  lines-before [] rest h = refl
  lines-before (x ∷ xs) rest h =
      let others = concat_map (λ a. f a ++ newline ∷ []) xs in
      ap lines (append_assoc (f x ++ newline ∷ []) others rest ∙ append_assoc (f x) (newline ∷ []) (others ++ rest))
      ∙ lines_seam (f x) (others ++ rest) h.0
      ∙ ap (λ (ls : List Bytes). f x ∷ ls) (lines-before xs rest h.1)

pub decimal-line : (n : ℕ) → Free newline (decimal n)
decimal-line n = digits-free newline (decimal n) (omega arith) (decimal-digits n)
