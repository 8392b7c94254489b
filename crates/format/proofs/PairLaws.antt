-- Two numbers written as fields, one after the other. Assumes nothing.
use Prim.Native.Nat.{ℕ, ◌+◌, ◌-◌, ◌^◌, ◌≤◌, ◌<◌}
use mathlib.Core.Path.{◌≡◌, refl}
use mathlib.Core.List.{◌∷◌, ◌++◌}
use native.Mathlib.Omega.{arith}
use lib.ListN.{length, take, drop}
use mir.Val.{Fits}
use mir.Syntax.{w64}
use Rattle.model.specs.Bytes.{Bytes}
use Rattle.model.specs.Number.{decimal}
use Rattle.format.specs.Put.{over, pair}
use Rattle.format.proofs.OverLaws.{first-room, second_at, second-room, second_fits, second_len, second-out}

module _ (first a then b : ℕ) (old : Bytes) (room : length (pair first a then b) ≤ length old) where
  pub pair-first : 1 + length (decimal a) ≤ length old
  pair-first = omega (arith, first-room (pair first a then b) (first ∷ decimal a) (then ∷ decimal b) old refl room)

  module _ (out : Bytes) (at : ℕ) (up_to : at ≡ 1 + length (decimal a)) (held : out ≡ over (first ∷ decimal a) old) where
    ends : at ≡ length (first ∷ decimal a)
    ends = omega arith

    pub pair_at_lem : at ≤ length out
    pair_at_lem = second_at (pair first a then b) (first ∷ decimal a) (then ∷ decimal b) old refl room out at held ends

    pub pair-room : 1 + length (decimal b) ≤ length (take (length out - at) (drop at out))
    pair-room = omega (arith, second-room (pair first a then b) (first ∷ decimal a) (then ∷ decimal b) old refl room out at held ends)

    module _ (n : ℕ) (more : n ≡ 1 + length (decimal b)) where
      more-ends : n ≡ length (then ∷ decimal b)
      more-ends = omega arith

      pub pair_fits : length old < 2 ^ 64 → Fits w64 (at + n)
      pair_fits h = second_fits (pair first a then b) (first ∷ decimal a) (then ∷ decimal b) old refl room out at held ends n more-ends h

      pub pair_len : at + n ≡ length (pair first a then b)
      pair_len = second_len (pair first a then b) (first ∷ decimal a) (then ∷ decimal b) old refl room out at held ends n more-ends

    pub pair-out : (ys : Bytes) → ys ≡ over (then ∷ decimal b) (take (length out - at) (drop at out))
        → take at out ++ (ys ++ drop (length out - at) (drop at out)) ≡ over (pair first a then b) old
    pair-out ys y = second-out (pair first a then b) (first ∷ decimal a) (then ∷ decimal b) old refl room out at held ends ys y
