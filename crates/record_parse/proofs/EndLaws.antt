-- Digits alone up to a comma, found byte by byte. Assumes nothing.
use Prim.Native.Nat.{ℕ, suc, ◌+◌, ◌≤◌, ◌<◌}
use native.Mathlib.Omega.{arith}
use native.Mathlib.Numerals.{add-one}
use mathlib.Core.Path.{◌≡◌, refl, sym, ap, ◌∙◌}
use mathlib.Core.Bool.{Bool, true, false, ◌&&◌}
use mathlib.Core.List.{[], ◌∷◌}
use mathlib.Core.Option.{Option, none, some}
use lib.Dec.{leb, ltb, eqb}
use lib.ListN.{length, drop, get_or}
use borrow.Author.Tests.{lt-ltb, lt-leb, le-leb, leb-true, eqb-true, eq-eqb, ne_eqb}
use Rattle.std.specs.Prelude.{if◌then◌else◌}
use Rattle.model.specs.Bytes.{Bytes, comma, before, after}
use Rattle.model.specs.Number.{is_digit}
use Rattle.model.specs.Line.{all_digits, is_digits, begins_with_end}
use Rattle.model.proofs.ListLaws.{and_left}
use Rattle.scan.proofs.ByteLaws.{drop-next, drop-end}
use Rattle.record_parse.specs.Fields.{end_behind}

-- ---- one byte

pub below_digit : (b : ℕ) → b < 48 → false ≡ is_digit b
below_digit b h = rw (lt-leb 48 b h)

pub above_digit : (b : ℕ) (r : Bool) → 48 ≤ b → r ≡ leb b 57 → r ≡ is_digit b
above_digit b r h e = e ∙ rw (le-leb 48 b h)

-- a comma is no digit
comma_digit : (b : ℕ) → is_digit b ≡ true → eqb b comma ≡ true → ⊥
comma_digit b d c = omega (arith, eqb-true b comma c, leb-true 48 b (and_left (leb 48 b) (leb b 57) d))

-- ---- the definition by bytes

abbrev up_to : Option Bytes → Bool → Bool
up_to none digits = false
up_to (some name) digits = digits

up_to_false : (o : Option Bytes) → false ≡ up_to o false
up_to_false none = refl
up_to_false (some name) = refl

-- behind one digit or more
behind_some : (n : ℕ) (bs : Bytes) → end_behind (suc n) bs ≡ up_to (after comma bs) (all_digits (before comma bs))
unfolding end_behind after before all_digits
behind_some n [] = refl
behind_some n (b ∷ bs) = go (is_digit b) (eqb b comma) refl refl (behind_some (suc n) bs)
  where
    go : (d c : Bool) → is_digit b ≡ d → eqb b comma ≡ c → end_behind (suc (suc n)) bs ≡ up_to (after comma bs) (all_digits (before comma bs))
        → (if d then end_behind (suc (suc n)) bs else if c then ltb 0 (suc n) else false)
        ≡ up_to (if c then some bs else after comma bs) (all_digits (if c then [] else b ∷ before comma bs))
    go true true d c ih = absurd (comma_digit b d c)
    go true false d c ih = ih ∙ ap (λ (t : Bool). up_to (after comma bs) (t && all_digits (before comma bs))) (sym d)
    go false true d c ih = lt-ltb 0 (suc n) (omega arith)
    go false false d c ih =
        up_to_false (after comma bs) ∙ ap (λ (t : Bool). up_to (after comma bs) (t && all_digits (before comma bs))) (sym d)

pub begins_behind : (bs : Bytes) → end_behind 0 bs ≡ begins_with_end bs
unfolding begins_with_end end_behind after before is_digits
begins_behind [] = refl
begins_behind (b ∷ bs) = go (is_digit b) (eqb b comma) refl refl ∙ same (if eqb b comma then some bs else after comma bs) _
  where
    same : (o : Option Bytes) (digits : Bool) → up_to o digits ≡ elim o as (λ _. Bool) [ none ↦ false | some name ↦ digits ]
    same none digits = refl
    same (some name) digits = refl

    go : (d c : Bool) → is_digit b ≡ d → eqb b comma ≡ c
        → (if d then end_behind 1 bs else if c then false else false)
        ≡ up_to (if c then some bs else after comma bs) (is_digits (if c then [] else b ∷ before comma bs))
    go true true d c = absurd (comma_digit b d c)
    go true false d c = behind_some 0 bs ∙ ap (λ (t : Bool). up_to (after comma bs) (t && all_digits (before comma bs))) (sym d)
    go false true d c = refl
    go false false d c = up_to_false (after comma bs) ∙ ap (λ (t : Bool). up_to (after comma bs) (t && all_digits (before comma bs))) (sym d)

-- ---- the loop: i digits have come

module _ (s : Bytes) (i : ℕ) (left : end_behind i (drop i s) ≡ begins_with_end s) where
  module _ (h : i < length s) (r : Bool) (is : r ≡ is_digit (get_or s i 0)) where
    pub digit_passed : r ≡ true → end_behind (i + 1) (drop (i + 1) s) ≡ begins_with_end s
    unfolding end_behind
    digit_passed e = rw add-one (sym (rw (drop-next 0 s i h, end_behind, ← is, e, add-one) refl) ∙ left)

    pub comma_met : (t : Bool) → r ≡ false → get_or s i 0 ≡ 44 → t ≡ ltb 0 i → t ≡ begins_with_end s
    unfolding end_behind
    comma_met t e c q = q ∙ rw (drop-next 0 s i h, end_behind, ← is, e, eq-eqb _ _ c) at left

    pub other_met : r ≡ false → (get_or s i 0 ≡ comma → ⊥) → false ≡ begins_with_end s
    unfolding end_behind
    other_met e c = rw (drop-next 0 s i h, end_behind, ← is, e, ne_eqb _ _ c) at left

  pub end_met : length s ≤ i → false ≡ begins_with_end s
  unfolding end_behind
  end_met h = rw (drop-end s i h, end_behind) at left
