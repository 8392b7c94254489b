-- A number read digit by digit: "first is it a digit, then does the value still fit". Assumes nothing.
use Rattle.std.proofs.Common.{◌≡◌, ℕ, suc, ◌+◌, ◌-◌, ◌*◌, ◌/◌, ◌%◌, ◌<◌, ◌≤◌, Bool, true, false, cond, ◌&&◌, eqb, ltb, leb, [], ◌∷◌, length, get_or, drop, sym, refl, ap, ◌∙◌, true≢false, arith, ltb-false, ltb-true, le-ltb, lt-ltb, eq-eqb, ne_eqb, eqb-true, le-leb, leb-true}
use borrow.Author.Tests.{lt-leb}
use Rattle.std.specs.Prelude.{if◌then◌else◌, Result, Ok, Err}
use Rattle.model.specs.declared.Fault.{Fault}
use Rattle.model.specs.declared.Fault.TheVariants.{EmptyNumber, InvalidDigit, NumberOverflow, SignedNumber}
use Rattle.model.specs.Bytes.{Bytes, comma, before, after}
use Rattle.model.specs.Answer.{refuse}
use Rattle.model.specs.Number.{is_digit, read_digits, read_number}
use Rattle.scan.specs.Scan.{followed, number_in, next_of, value_of, is_signed, with_digits, Above, NumberRead}
use Rattle.scan.specs.declared.Number.{Number}
use Rattle.scan.specs.declared.Number.TheVariants.{Last, More}
use Rattle.scan.proofs.ByteLaws.{drop-next, drop-end}

-- one more digit, and max
module _ {value digit max : ℕ} where
  pub above-below : value < max / 10 → digit ≤ 9 → Above value digit max false
  above-below h d = record { is = sym (le-ltb max (value * 10 + digit) (omega arith)) }

  pub above-above : max / 10 < value → Above value digit max true
  above-above h = record { is = sym (lt-ltb max (value * 10 + digit) (omega arith)) }

  pub above_edge : max / 10 ≤ value → value ≤ max / 10 → Above value digit max (ltb (max - value * 10) digit)
  above_edge h k = record { is = go (ltb (max - value * 10) digit) refl }
    where
      go : (t : Bool) → ltb (max - value * 10) digit ≡ t → ltb (max - value * 10) digit ≡ ltb max (value * 10 + digit)
      go true e = e ∙ sym (lt-ltb max (value * 10 + digit) (omega (arith, ltb-true (max - value * 10) digit e)))
      go false e = e ∙ sym (le-ltb max (value * 10 + digit) (omega (arith, ltb-false (max - value * 10) digit e)))

  pub fits : {r : Bool} → Above value digit max r → r ≡ false → value * 10 + digit ≤ max
  fits a e = ltb-false max (value * 10 + digit) (sym a.is ∙ e)

  pub passes : {r : Bool} → Above value digit max r → r ≡ true → max < value * 10 + digit
  passes a e = ltb-true max (value * 10 + digit) (sym a.is ∙ e)

-- the answer from index i on, where the digits before it have a value
unfoldable pub scanned : ℕ → ℕ → ℕ → Bytes → Result Number Fault
scanned max i value [] = with_digits i (Last value i)
scanned max i value (b ∷ bs) =
    if is_digit b then if leb (value * 10 + (b - 48)) max then scanned max (i + 1) (value * 10 + (b - 48)) bs else Err NumberOverflow
    else if eqb b comma then with_digits i (More value i)
    else Err InvalidDigit

module _ (max : ℕ) where
  -- the rest as the model reads it
  abbrev Rest : ℕ → ℕ → Bytes → Type 0
  Rest i value bs = scanned max i value bs ≡ followed (read_digits max value (before comma bs)) (i + length (before comma bs)) (after comma bs)

  rest-step : (i value b : ℕ) (bs : Bytes) → eqb b comma ≡ false → ((v : ℕ) → Rest (i + 1) v bs) → Rest i value (b ∷ bs)
  unfolding scanned before after read_digits
  rest-step i value b bs n rest = rw (n, before, after) (go (is_digit b) (leb (value * 10 + (b - 48)) max))
    where
      go : (d t : Bool) → (cond d (cond t (scanned max (i + 1) (value * 10 + (b - 48)) bs) (Err NumberOverflow)) (Err InvalidDigit)) ≡ followed (cond d (cond t (read_digits max (value * 10 + (b - 48)) (before comma bs)) (refuse NumberOverflow)) (refuse InvalidDigit)) (i + suc (length (before comma bs))) (after comma bs)
      go true true = rest (value * 10 + (b - 48)) ∙ ap (λ (n : ℕ). followed (read_digits max (value * 10 + (b - 48)) (before comma bs)) n (after comma bs)) (omega arith)
      go true false = refl
      go false t = refl

  -- after the first digit
  rest_more : (i value : ℕ) (bs : Bytes) → 0 < i → Rest i value bs
  unfolding scanned before after read_digits with_digits
  rest_more i value [] h = rw (ne_eqb i 0 (λ e. omega (arith, h, e))) (ap (λ (n : ℕ). Ok (Last value n)) (omega arith))
  rest_more i value (b ∷ bs) h = go (eqb b comma) refl (λ v. rest_more (i + 1) v bs (omega arith))
    where
      go : (d : Bool) → eqb b comma ≡ d → ((v : ℕ) → Rest (i + 1) v bs) → Rest i value (b ∷ bs)
      go true e rest =
          let is : b ≡ 44 = eqb-true b 44 e in
          rw (is, before, after, ne_eqb i 0 (λ z. omega (arith, h, z))) (ap (λ (n : ℕ). Ok (More value n)) (omega arith))
      go false e rest = rest-step i value b bs e rest

-- from the first byte on: the whole number, unless it has a sign
from_start : (max : ℕ) (s : Bytes) → is_signed s ≡ false → scanned max 0 0 s ≡ number_in max s
unfolding scanned is_signed number_in before after read_number with_digits
from_start max [] n = refl
from_start max (b ∷ bs) n = go (eqb b comma) refl
  where
    go : (d : Bool) → eqb b comma ≡ d → scanned max 0 0 (b ∷ bs) ≡ number_in max (b ∷ bs)
    go true e = rw (eqb-true b 44 e, before)
    go false e =
        rest-step max 0 0 b bs e (λ v. rest_more max 1 v bs (omega arith))
        ∙ rw (e, before, after, n) (ap (λ (n : ℕ). followed (read_digits max 0 (b ∷ before comma bs)) n (after comma bs)) (omega arith))

-- ---- a sign

pub sign_empty : (s : Bytes) → length s ≡ 0 → false ≡ is_signed s
unfolding is_signed
sign_empty [] e = refl
sign_empty (b ∷ bs) e = absurd (omega arith)

pub sign_first : (s : Bytes) → (length s ≡ 0 → ⊥) → eqb (get_or s 0 0) 43 ≡ is_signed s
unfolding is_signed
sign_first [] n = absurd (n refl)
sign_first (b ∷ bs) n = refl

pub sign_none : (s : Bytes) → (length s ≡ 0 → ⊥) → (get_or s 0 0 ≡ 43 → ⊥) → is_signed s ≡ false
sign_none s n e = sym (sign_first s n) ∙ ne_eqb (get_or s 0 0) 43 e

pub sign_read : {max : ℕ} {s : Bytes} {r : Bool} → r ≡ is_signed s → r ≡ true → NumberRead max s (Err SignedNumber)
unfolding is_signed number_in before after read_number
sign_read {max} {s} e t = record { is = go s (sym e ∙ t); long = omega arith; most = omega arith }
  where
    go : (s : Bytes) → is_signed s ≡ true → Err SignedNumber ≡ number_in max s
    go [] n = absurd (true≢false (sym n))
    go (b ∷ bs) n = rw (eqb-true b 43 n, before, after)

-- ---- the end of a number

module _ (digits : ℕ) (number : Number) where
  pub digits_some : (digits ≡ 0 → ⊥) → Ok number ≡ with_digits digits number
  unfolding with_digits
  digits_some h = rw (ne_eqb digits 0 h)

  pub digits_empty : digits ≡ 0 → Err EmptyNumber ≡ with_digits digits number
  unfolding with_digits
  digits_empty e = rw (eq-eqb digits 0 e)

  -- what bounds the number bounds the answer
  digits-most : (f : Result Number Fault → ℕ) (m : ℕ) → f (Ok number) ≤ m → f (Err EmptyNumber) ≤ m → f (with_digits digits number) ≤ m
  unfolding with_digits
  digits-most f m h k = go (eqb digits 0)
    where
      go : (d : Bool) → f (cond d (Err EmptyNumber) (Ok number)) ≤ m
      go true = k
      go false = h

-- ---- the loop over the digits: going on from index i gives the whole's answer

pub record Scan (max : ℕ) (s : Bytes) (i value : ℕ) : Type 0 where
  pub within : i ≤ length s
  pub most : value ≤ max
  pub left : scanned max i value (drop i s) ≡ number_in max s

pub scan_start_lem : {max : ℕ} {s : Bytes} {r : Bool} → r ≡ is_signed s → r ≡ false → Scan max s 0 0
scan_start_lem {max} {s} e f = record { within = omega arith; most = omega arith; left = from_start max s (sym e ∙ f) }

module _ {max : ℕ} {s : Bytes} {i value : ℕ} (scan : Scan max s i value) where
  digits_read : (r : Result Number Fault) (number : Number) → next_of (Ok number) ≤ length s → value_of (Ok number) ≤ max → r ≡ with_digits i number → r ≡ number_in max s → NumberRead max s r
  digits_read r number h k e q =
      record {
        is = q;
        long = rw e (digits-most i number next_of (length s) h (omega arith));
        most = rw e (digits-most i number value_of max k (omega arith));
      }

  pub scan_end : (r : Result Number Fault) → length s ≤ i → r ≡ with_digits i (Last value i) → NumberRead max s r
  unfolding scanned
  scan_end r h e = digits_read r (Last value i) (omega arith) scan.most e (e ∙ (rw (drop-end s i h) at scan.left))

  -- the byte at i
  next : (b : ℕ) → i < length s → get_or s i 0 ≡ b → scanned max i value (b ∷ drop (i + 1) s) ≡ number_in max s
  next b h e = rw (drop-next 0 s i h, e) at scan.left

  -- a byte whose distance from '0' is above 9
  no_digit : (b digit : ℕ) → (digit + 48) % 256 ≡ b → digit < 256 → 9 < digit → is_digit b ≡ false
  no_digit b digit e l h = go (leb 48 b) refl
    where
      go : (d : Bool) → leb 48 b ≡ d → (d && leb b 57) ≡ false
      go true t = lt-leb b 57 (omega (arith, leb-true 48 b t))
      go false t = refl

  digit_is : (b digit : ℕ) → (digit + 48) % 256 ≡ b → digit ≤ 9 → b ≡ digit + 48
  digit_is b digit e h = omega arith

  is_digit_lem : (digit : ℕ) → digit ≤ 9 → is_digit (digit + 48) ≡ true
  is_digit_lem digit h = rw (le-leb 48 (digit + 48) (omega arith)) (le-leb (digit + 48) 57 (omega arith))

  pub scan_comma : (r : Result Number Fault) → i < length s → get_or s i 0 ≡ 44 → r ≡ with_digits i (More value i) → NumberRead max s r
  unfolding scanned
  scan_comma r h is q = digits_read r (More value i) (omega arith) scan.most q (q ∙ next 44 h is)

  -- the distance of the byte at i from '0', as the code computes it
  abbrev digit_at : ℕ
  digit_at = (get_or s i 0 + 208) % 256

  pub scan_bad : i < length s → get_or s i 0 < 256 → 9 < digit_at → (get_or s i 0 ≡ 44 → ⊥) → NumberRead max s (Err InvalidDigit)
  unfolding scanned
  scan_bad h l d is =
      record {
        is = rw (no_digit (get_or s i 0) digit_at (omega arith) (omega arith) d, ne_eqb (get_or s i 0) 44 is) at (next (get_or s i 0) h refl);
        long = omega arith;
        most = omega arith;
      }

  pub scan_large : {r : Bool} → i < length s → get_or s i 0 < 256 → digit_at ≤ 9 → Above value digit_at max r → r ≡ true → NumberRead max s (Err NumberOverflow)
  unfolding scanned
  scan_large h l d a f =
      let far = passes a f in
      record {
        is = rw (is_digit_lem digit_at d, lt-leb (value * 10 + (digit_at + 48 - 48)) max (omega arith)) at (next (digit_at + 48) h (digit_is _ digit_at (omega arith) d));
        long = omega arith;
        most = omega arith;
      }

  pub scan_digit : (digit : ℕ) → i < length s → get_or s i 0 ≡ digit + 48 → digit ≤ 9 → value * 10 + digit ≤ max → Scan max s (i + 1) (value * 10 + digit)
  unfolding scanned
  scan_digit digit h e d near =
      let same : digit + 48 - 48 ≡ digit = omega arith in
      record {
        within = omega arith;
        most = near;
        left = rw (is_digit_lem digit d, same, le-leb (value * 10 + digit) max near) at (next (digit + 48) h e);
      }

  pub scan_step : {r : Bool} → i < length s → get_or s i 0 < 256 → digit_at ≤ 9 → Above value digit_at max r → r ≡ false → Scan max s (i + 1) (value * 10 + digit_at)
  scan_step h l d a f = scan_digit digit_at h (digit_is _ digit_at (omega arith) d) d (fits a f)
