-- A byte for each text, set one after the other. Assumes nothing.
use Prim.Native.Nat.{ℕ, ◌+◌, ◌<◌}
use native.Mathlib.Omega.{arith}
use mathlib.Core.Path.{◌≡◌, refl}
use mathlib.Core.Logic.{◌≢◌}
use mathlib.Core.Bool.{Bool, true, false}
use mathlib.Core.List.{List}
use mir.Val.{bool_byte}
use lib.Dec.{ltb}
use lib.ListN.{length, set}
use lib.Seq.{get_or-set_same, get_or-set_other}
use borrow.Author.Count.{below_more}
use Rattle.bundle.specs.Marks.{is_marked, MarkedAs}

is-marked : (b : Bool) → ltb 0 (bool_byte b) ≡ b
is-marked true = refl
is-marked false = refl

-- the mark of one more text
module _ (test : ℕ → Bool) (marks : List ℕ) (i : ℕ) (so_far : MarkedAs test i marks) where
  pub one-marked : i < length marks → (r : Bool) → r ≡ test i → MarkedAs test (i + 1) (set marks i (bool_byte r))
  one-marked l r e = below_more (λ k. is_marked (set marks i (bool_byte r)) k ≡ test k) i others here
    where
      here : is_marked (set marks i (bool_byte r)) i ≡ test i
      here = rw (get_or-set_same marks i (bool_byte r) 1 l, is-marked r) e

      others : (k : ℕ) → k < i → is_marked (set marks i (bool_byte r)) k ≡ test k
      others k m =
          let other : k ≢ i = λ f. omega arith in
          rw (get_or-set_other marks i k (bool_byte r) 1 other) (so_far k m)
