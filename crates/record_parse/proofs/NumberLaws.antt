-- One whole number field, by the number in front of its first comma: a comma is no digit. Assumes nothing.
use Rattle.std.specs.Prelude.{Result, Ok, Err}
use Prim.Native.Nat.{ℕ, ◌+◌, ◌-◌, ◌*◌}
use mathlib.Core.Path.{◌≡◌, refl, sym, ap, ◌∙◌}
use mathlib.Core.List.{[], ◌∷◌}
use mathlib.Core.Bool.{Bool, true, false, cond}
use mathlib.Core.Option.{Option, none, some}
use lib.Dec.{leb, eqb}
use lib.ListN.{length, take}
use borrow.Author.Tests.{eqb-true}
use Rattle.ordmap.proofs.Results.{impossible}
use Rattle.model.specs.declared.Fault.{Fault}
use Rattle.model.specs.declared.Fault.TheVariants.{EmptyNumber, InvalidDigit, NumberOverflow, SignedNumber}
use Rattle.model.specs.declared.Refusal.{Refusal}
use Rattle.model.specs.Bytes.{Bytes, ascii, comma, compare_bytes, same_bytes, before, after}
use Rattle.model.specs.Answer.{Answer, accepted, refused, refuse, unplaced}
use Rattle.model.specs.Number.{is_digit, read_digits, read_number, read_field}
use Rattle.model.specs.Calls.{ValueCall, call_answer}
use Rattle.model.proofs.CallLaws.{value_called}
use Rattle.scan.specs.declared.Number.{Number as Scanned}
use Rattle.scan.specs.declared.Number.TheVariants as N
use Rattle.scan.specs.Scan.{followed, number_in, NumberRead}
use Rattle.scan.proofs.ByteLaws.{same-cons}

-- ---- the number in front of the first comma, and the whole field

-- the whole field, where that number is read or refused and then nothing or a comma follows
abbrev through : Answer ℕ → Option Bytes → Answer ℕ
through (accepted value) none = accepted value
through (accepted value) (some rest) = refuse InvalidDigit
through (refused r) rest = refused r

digits_through : (max v : ℕ) (s : Bytes) → read_digits max v s ≡ through (read_digits max v (before comma s)) (after comma s)
unfolding read_digits before after
digits_through max v [] = refl
digits_through max v (b ∷ bs) = go (eqb b comma) refl (λ w. digits_through max w bs)
  where
    go : (d : Bool) → eqb b comma ≡ d → ((w : ℕ) → read_digits max w bs ≡ through (read_digits max w (before comma bs)) (after comma bs))
        → read_digits max v (b ∷ bs) ≡ through (read_digits max v (cond d [] (b ∷ before comma bs))) (cond d (some bs) (after comma bs))
    go true e ih = rw (eqb-true b 44 e)
    go false e ih = digit (is_digit b) (leb (v * 10 + (b - 48)) max)
      where
        digit : (d t : Bool) → cond d (cond t (read_digits max (v * 10 + (b - 48)) bs) (refuse NumberOverflow)) (refuse InvalidDigit)
            ≡ through (cond d (cond t (read_digits max (v * 10 + (b - 48)) (before comma bs)) (refuse NumberOverflow)) (refuse InvalidDigit)) (after comma bs)
        digit true true = ih (v * 10 + (b - 48))
        digit true false = refl
        digit false t = refl

-- unless a comma comes first
number_through : (max : ℕ) (s : Bytes) → same_bytes (take 1 s) (ascii ",") ≡ false → read_number max s ≡ through (read_number max (before comma s)) (after comma s)
unfolding read_number before after compare_bytes
number_through max [] n = refl
number_through max (b ∷ bs) n = go (eqb b comma) refl
  where
    go : (d : Bool) → eqb b comma ≡ d
        → read_number max (b ∷ bs) ≡ through (read_number max (cond d [] (b ∷ before comma bs))) (cond d (some bs) (after comma bs))
    go true e = impossible (cc (same-cons b 44 [] [] true e, n))
    go false e = sign (eqb b 43)
      where
        sign : (p : Bool) → cond p (refuse SignedNumber) (read_digits max 0 (b ∷ bs))
            ≡ through (cond p (refuse SignedNumber) (read_digits max 0 (b ∷ before comma bs))) (after comma bs)
        sign true = refl
        sign false = digits_through max 0 (b ∷ bs) ∙ rw (e, before, after)

-- no comma: the number is all of the field
before-all : (s : Bytes) → after comma s ≡ none → before comma s ≡ s
unfolding before after
before-all [] e = refl
before-all (b ∷ bs) e = go (eqb b comma) e (λ q. before-all bs q)
  where
    go : (d : Bool) → cond d (some bs) (after comma bs) ≡ none → (after comma bs ≡ none → before comma bs ≡ bs) → cond d [] (b ∷ before comma bs) ≡ b ∷ bs
    go true q ih = impossible cc
    go false q ih = ap (λ (l : Bytes). b ∷ l) (ih q)

-- ---- a number's refusal has no place

digits-unplaced : (max v : ℕ) (s : Bytes) {r : Refusal} → read_digits max v s ≡ refused r → r ≡ unplaced r.fault
unfolding read_digits
digits-unplaced max v [] e = impossible cc
digits-unplaced max v (b ∷ bs) {r} e = go (is_digit b) (leb (v * 10 + (b - 48)) max) e (λ q. digits-unplaced max (v * 10 + (b - 48)) bs q)
  where
    go : (d t : Bool) → cond d (cond t (read_digits max (v * 10 + (b - 48)) bs) (refuse NumberOverflow)) (refuse InvalidDigit) ≡ refused r
        → (read_digits max (v * 10 + (b - 48)) bs ≡ refused r → r ≡ unplaced r.fault) → r ≡ unplaced r.fault
    go true true q ih = ih q
    go true false q ih = let z : r ≡ unplaced NumberOverflow = cc in rw z
    go false t q ih = let z : r ≡ unplaced InvalidDigit = cc in rw z

number-unplaced : (max : ℕ) (s : Bytes) {r : Refusal} → read_number max s ≡ refused r → r ≡ unplaced r.fault
unfolding read_number
number-unplaced max [] {r} e = let z : r ≡ unplaced EmptyNumber = cc in rw z
number-unplaced max (b ∷ bs) {r} e = go (eqb b 43) e
  where
    go : (p : Bool) → cond p (refuse SignedNumber) (read_digits max 0 (b ∷ bs)) ≡ refused r → r ≡ unplaced r.fault
    go true q = let z : r ≡ unplaced SignedNumber = cc in rw z
    go false q = digits-unplaced max 0 (b ∷ bs) q

-- ---- the call

-- a comma comes first
pub comma_first : (max : ℕ) (s : Bytes) (d : Bool) (q : Refusal) → d ≡ same_bytes (take 1 s) (ascii ",") → d ≡ true → q ≡ unplaced InvalidDigit
    → ValueCall (read_field max s) (Err q)
unfolding read_field read_number read_digits call_answer compare_bytes
comma_first max s d q e t z = value_called (read_field max s) (Err q) (go s (sym e ∙ t))
  where
    go : (s : Bytes) → same_bytes (take 1 s) (ascii ",") ≡ true → Err q ≡ call_answer (read_field max s)
    go [] h = impossible cc
    go (b ∷ bs) h = pick (eqb b 44) refl
      where
        pick : (p : Bool) → eqb b 44 ≡ p → Err q ≡ call_answer (read_field max (b ∷ bs))
        pick true f = rw (eqb-true b 44 f, z)
        pick false f = impossible (cc (same-cons b 44 [] [] false f, h))

module _ {max : ℕ} (s : Bytes) (d : Bool) (d-is : d ≡ same_bytes (take 1 s) (ascii ",")) (no-d : d ≡ false) {got : Result Scanned Fault} (seen : NumberRead max s got) where
  value : Answer ℕ
  value = read_number max (before comma s)

  all : read_number max s ≡ through value (after comma s)
  unfolding value
  all = number_through max s (sym d-is ∙ no-d)

  got_is : got ≡ followed value (length (before comma s)) (after comma s)
  unfolding value number_in
  got_is = seen.is

  pub field_read : (v n : ℕ) → got ≡ Ok (N.Last v n) → ValueCall (read_field max s) (Ok (record { value = v; digits = n }))
  unfolding read_field call_answer
  field_read v n e = value_called (read_field max s) (Ok (record { value = v; digits = n })) (go value (after comma s) refl refl all (sym e ∙ got_is))
    where
      go : (a : Answer ℕ) (o : Option Bytes) → value ≡ a → after comma s ≡ o → read_number max s ≡ through a o
          → Ok (N.Last v n) ≡ followed a (length (before comma s)) o → Ok (record { value = v; digits = n }) ≡ call_answer (read_field max s)
      go (accepted w) none f g h k =
          let a : v ≡ w = cc in
          let b : n ≡ length (before comma s) = cc in
          rw (h, a, b, before-all s g)
      go (accepted w) (some rest) f g h k = impossible cc
      go (refused r) o f g h k = impossible cc

  pub field_comma : (v n : ℕ) (q : Refusal) → got ≡ Ok (N.More v n) → q ≡ unplaced InvalidDigit → ValueCall (read_field max s) (Err q)
  unfolding read_field call_answer
  field_comma v n q e z = value_called (read_field max s) (Err q) (go value (after comma s) all (sym e ∙ got_is))
    where
      go : (a : Answer ℕ) (o : Option Bytes) → read_number max s ≡ through a o → Ok (N.More v n) ≡ followed a (length (before comma s)) o
          → Err q ≡ call_answer (read_field max s)
      go (accepted w) none h k = impossible cc
      go (accepted w) (some rest) h k = rw (h, z)
      go (refused r) o h k = impossible cc

  pub field_refused : (f : Fault) (q : Refusal) → got ≡ Err f → q ≡ unplaced f → ValueCall (read_field max s) (Err q)
  unfolding read_field call_answer
  field_refused f q e z = value_called (read_field max s) (Err q) (go value (after comma s) all (sym e ∙ got_is))
    where
      go : (a : Answer ℕ) (o : Option Bytes) → read_number max s ≡ through a o → Err f ≡ followed a (length (before comma s)) o
          → Err q ≡ call_answer (read_field max s)
      go (accepted w) none h k = impossible cc
      go (accepted w) (some rest) h k = impossible cc
      go (refused r) o h k =
          let same : r.fault ≡ f = cc in
          let place : r ≡ unplaced r.fault = number-unplaced max s h in
          rw h (ap (λ (x : Refusal). Err x) (z ∙ ap unplaced (sym same) ∙ sym place))
