-- A number that is printed is read back; what is read has digits alone. Assumes nothing.
use Prim.Native.Nat.{ℕ, zero, suc, ◌+◌, ◌-◌, ◌*◌, ◌/◌, ◌%◌, ◌^◌, ◌≤◌, ◌<◌}
use native.Mathlib.Nat.{pow-suc, add-sub_cancel_left}
use native.Mathlib.Omega.{arith}
use native.Mathlib.Decide.{dec_lt}
use mathlib.Core.Path.{◌≡◌, refl, sym, ap, ◌∙◌}
use mathlib.Core.Bool.{Bool, true, false}
use mathlib.Core.List.{[], ◌∷◌, ◌++◌}
use lib.Dec.{leb, eqb}
use lib.ListN.{length}
use borrow.Author.Tests.{le-leb, lt-ltb, le-ltb, ne_eqb}
use Rattle.ordmap.proofs.Results.{accepted_inj, not_accepted, bind-accepted}
use Rattle.model.specs.declared.Fault.TheVariants.{InvalidDigit, NumberOverflow, SignedNumber}
use Rattle.std.specs.Prelude.{if◌then◌else◌}
use Rattle.model.specs.Lists.{filter}
use Rattle.model.specs.Bytes.{Bytes}
use Rattle.model.specs.Answer.{Answer, accepted, ◌>>=◌, refuse}
use Rattle.model.specs.declared.Counted.{Counted}
use Rattle.model.specs.Number.{is_digit, read_digits, read_number, read_field, decimal_digits, decimal}

pub read_digits-append : (max a : ℕ) (xs ys : Bytes)
    → read_digits max a (xs ++ ys) ≡ (read_digits max a xs >>= λ v. read_digits max v ys)
unfolding read_digits
read_digits-append max a [] ys = refl
read_digits-append max a (b ∷ bs) ys =
    go (is_digit b) (leb (a * 10 + (b - 48)) max) _ _ (read_digits-append max (a * 10 + (b - 48)) bs ys)
  where
    go : (d t : Bool) (x y : Answer ℕ) → x ≡ (y >>= λ v. read_digits max v ys)
        → (if d then if t then x else refuse NumberOverflow else refuse InvalidDigit) ≡ ((if d then if t then y else refuse NumberOverflow else refuse InvalidDigit) >>= λ v. read_digits max v ys)
    go true true x y e = e
    go true false x y e = refl
    go false true x y e = refl
    go false false x y e = refl

pub read_digits-one : (max a d : ℕ) → d < 10 → a * 10 + d ≤ max → read_digits max a ((48 + d) ∷ []) ≡ accepted (a * 10 + d)
unfolding read_digits
read_digits-one max a d small fits =
    simp (le-leb 48 (48 + d) (omega arith), le-leb (48 + d) 57 (omega arith), add-sub_cancel_left, le-leb (a * 10 + d) max fits)

pub decimal_digits-small : (n v : ℕ) → v < 10 → decimal_digits (suc n) v ≡ (48 + v) ∷ []
unfolding decimal_digits
decimal_digits-small n v h = rw (lt-ltb v 10 h, decimal_digits)

pub decimal_digits_large : (n v : ℕ) → 10 ≤ v → decimal_digits (suc n) v ≡ decimal_digits n (v / 10) ++ ((48 + v % 10) ∷ [])
unfolding decimal_digits
decimal_digits_large n v h = rw (le-ltb v 10 h, decimal_digits)

pub read_digits-decimal : (max n v : ℕ) → v < 10 ^ n → v ≤ max → read_digits max 0 (decimal_digits n v) ≡ accepted v
unfolding read_digits decimal_digits
read_digits-decimal max zero v small fits = ap accepted (omega (arith, small))
read_digits-decimal max (suc n) v small fits =
    go (read_digits-decimal max n (v / 10) (omega (arith, small, pow-suc 10 n)) (omega (arith, fits))) (dec_lt v 10)
  where
    go : read_digits max 0 (decimal_digits n (v / 10)) ≡ accepted (v / 10) → Dec (v < 10) → read_digits max 0 (decimal_digits (suc n) v) ≡ accepted v
    go ih (yes h) = rw (decimal_digits-small n v h) (read_digits-one max 0 v h (omega arith) ∙ ap accepted (omega arith))
    go ih (no h) =
        rw (decimal_digits_large n v (omega (arith, h)))
        (read_digits-append max 0 (decimal_digits n (v / 10)) ((48 + v % 10) ∷ [])
        ∙ ap (λ (r : Answer ℕ). r >>= λ w. read_digits max w ((48 + v % 10) ∷ [])) ih
        ∙ read_digits-one max (v / 10) (v % 10) (omega arith) (omega arith)
        ∙ ap accepted (omega arith))

-- the first byte printed is a digit
pub record StartsWithDigit (bytes : Bytes) : Type 0 where
  pub first : ℕ
  pub rest : Bytes
  pub is : bytes ≡ first ∷ rest
  pub digit : 48 ≤ first

starts-append : {xs : Bytes} (ys : Bytes) → StartsWithDigit xs → StartsWithDigit (xs ++ ys)
starts-append ys s = record { first = s.first; rest = s.rest ++ ys; is = ap (λ (r : Bytes). r ++ ys) s.is; digit = s.digit }

pub decimal_digits-starts : (n v : ℕ) → StartsWithDigit (decimal_digits (suc n) v)
unfolding decimal_digits
decimal_digits-starts zero v = go (dec_lt v 10)
  where
    go : Dec (v < 10) → StartsWithDigit (decimal_digits 1 v)
    go (yes h) = record { first = 48 + v; rest = []; is = decimal_digits-small 0 v h; digit = omega arith }
    go (no h) = record { first = 48 + v % 10; rest = []; is = decimal_digits_large 0 v (omega (arith, h)); digit = omega arith }
decimal_digits-starts (suc n) v = go (dec_lt v 10) (decimal_digits-starts n (v / 10))
  where
    go : Dec (v < 10) → StartsWithDigit (decimal_digits (suc n) (v / 10)) → StartsWithDigit (decimal_digits (suc (suc n)) v)
    go (yes h) ih = record { first = 48 + v; rest = []; is = decimal_digits-small (suc n) v h; digit = omega arith }
    go (no h) ih = rw (decimal_digits_large (suc n) v (omega (arith, h))) (starts-append ((48 + v % 10) ∷ []) ih)

-- a number whose first byte is a digit has no sign
read_number_digit : (max : ℕ) {bytes : Bytes} → StartsWithDigit bytes → read_number max bytes ≡ read_digits max 0 bytes
unfolding read_number
read_number_digit max {bytes} s =
    rw s.is (simp (ne_eqb s.first 43 (λ e. omega (arith, e, s.digit))))

pub read_number-decimal : (max v : ℕ) → v < 10 ^ 20 → v ≤ max → read_number max (decimal v) ≡ accepted v
unfolding decimal
read_number-decimal max v small fits = read_number_digit max (decimal_digits-starts 19 v) ∙ read_digits-decimal max 20 v small fits

-- ---- digits read

-- a number that is read has digits alone
digits-alone : (max v : ℕ) (bs : Bytes) {n : ℕ} → read_digits max v bs ≡ accepted n → filter is_digit bs ≡ bs
unfolding read_digits filter
digits-alone max v [] p = refl
digits-alone max v (b ∷ bs) {n} p = go (is_digit b) (leb (v * 10 + (b - 48)) max) p (λ q. digits-alone max (v * 10 + (b - 48)) bs q)
  where
    go : (d t : Bool) → (if d then if t then read_digits max (v * 10 + (b - 48)) bs else refuse NumberOverflow else refuse InvalidDigit) ≡ accepted n
        → (read_digits max (v * 10 + (b - 48)) bs ≡ accepted n → filter is_digit bs ≡ bs) → (if d then b ∷ filter is_digit bs else filter is_digit bs) ≡ b ∷ bs
    go true true q ih = ap (λ (l : Bytes). b ∷ l) (ih q)
    go true false q ih = absurd (not_accepted q)
    go false t q ih = absurd (not_accepted q)

number-alone : (max : ℕ) (bs : Bytes) {n : ℕ} → read_number max bs ≡ accepted n → filter is_digit bs ≡ bs
unfolding read_number filter
number-alone max [] p = refl
number-alone max (b ∷ bs) {n} p = go (eqb b 43) p
  where
    go : (s : Bool) → (if s then refuse SignedNumber else read_digits max 0 (b ∷ bs)) ≡ accepted n → filter is_digit (b ∷ bs) ≡ b ∷ bs
    go true q = absurd (not_accepted q)
    go false q = digits-alone max 0 (b ∷ bs) q

-- `digits` counts the digits of the field
pub digits-counted : (max : ℕ) (field : Bytes) {c : Counted} → read_field max field ≡ accepted c → c.digits ≡ length (filter is_digit field)
unfolding read_field
digits-counted max field p =
    let (value, q, e) = bind-accepted (read_number max field) _ p in
    ap (λ (x : Counted). x.digits) (sym (accepted_inj e)) ∙ ap length (sym (number-alone max field q))
