-- Laws of the decimal digits. Assumes nothing.
use Prim.Native.Nat.{ℕ, zero, suc, ◌+◌, ◌*◌, ◌/◌, ◌%◌, ◌^◌, ◌≤◌, ◌<◌}
use mathlib.Core.Path.{◌≡◌, refl, sym, ap, ◌∙◌}
use mathlib.Core.List.{[], ◌∷◌, ◌++◌}
use mathlib.Core.Bool.{Bool, true, false}
use native.Mathlib.Omega.{arith}
use native.Mathlib.Nat.{pow-suc, mul_assoc, le_trans, div-lt_iff_lt-mul, lt_of_lt_of_le}
use lib.Dec.{ltb, lit≤}
use lib.ListN.{length, length-append}
use borrow.Author.Tests.{ltb-true, ltb-false}
use Rattle.model.specs.Bytes.{Bytes}
use Rattle.model.specs.Number.{decimal, decimal_digits}
use Rattle.model.proofs.NumberLaws.{decimal_digits-small, decimal_digits_large}
use Rattle.format.specs.Digits.{front}

ten_pos : (n : ℕ) → 0 < 10 ^ n
ten_pos zero = omega arith
ten_pos (suc n) = omega (arith, ten_pos n, pow-suc 10 n)

-- ---- how many there are

few-digits : (n v : ℕ) → length (decimal_digits n v) ≤ n
unfolding decimal_digits
few-digits zero v = omega arith
few-digits (suc n) v = go (ltb v 10) refl (few-digits n (v / 10))
  where
    go : (d : Bool) → ltb v 10 ≡ d → length (decimal_digits n (v / 10)) ≤ n → length (decimal_digits (suc n) v) ≤ suc n
    go true e rest = rw (decimal_digits-small n v (ltb-true v 10 e)) (omega arith)
    go false e rest = rw (decimal_digits_large n v (ltb-false v 10 e), length-append) (omega arith)

pub decimal-most : (v : ℕ) → length (decimal v) ≤ 20
unfolding decimal
decimal-most v = few-digits 20 v

-- one more digit than there is changes nothing
more_fuel : (k v : ℕ) → v < 10 ^ suc k → decimal_digits (suc k) v ≡ decimal_digits (suc (suc k)) v
more_fuel zero v h = decimal_digits-small 0 v h ∙ sym (decimal_digits-small 1 v h)
more_fuel (suc k) v h = go (ltb v 10) refl (more_fuel k (v / 10) ((div-lt_iff_lt-mul (lit≤ tt)).1 (rw pow-suc at h)))
  where
    go : (d : Bool) → ltb v 10 ≡ d → decimal_digits (suc k) (v / 10) ≡ decimal_digits (suc (suc k)) (v / 10) → decimal_digits (suc (suc k)) v ≡ decimal_digits (suc (suc (suc k))) v
    go true e rest = let h = ltb-true v 10 e in decimal_digits-small (suc k) v h ∙ sym (decimal_digits-small (suc (suc k)) v h)
    go false e rest =
        let h = ltb-false v 10 e in
        decimal_digits_large (suc k) v h ∙ ap (λ (l : Bytes). l ++ ((48 + v % 10) ∷ [])) rest ∙ sym (decimal_digits_large (suc (suc k)) v h)

digits-next : (k v : ℕ) → 10 ≤ v → v < 10 ^ suc (suc k) → decimal_digits (suc (suc k)) v ≡ decimal_digits (suc (suc k)) (v / 10) ++ ((48 + v % 10) ∷ [])
digits-next k v h b = decimal_digits_large (suc k) v h ∙ ap (λ (l : Bytes). l ++ ((48 + v % 10) ∷ [])) (more_fuel k (v / 10) ((div-lt_iff_lt-mul (lit≤ tt)).1 (rw pow-suc at b)))

decimal-next : (v : ℕ) → 10 ≤ v → v < 2 ^ 64 → decimal v ≡ decimal (v / 10) ++ ((48 + v % 10) ∷ [])
unfolding decimal
decimal-next v h small = digits-next 18 v h (lt_of_lt_of_le small (lit≤ tt))

-- ---- one digit behind the others

decimal-one : (v : ℕ) → v < 10 → decimal v ≡ (48 + v) ∷ []
unfolding decimal
decimal-one v h = decimal_digits-small 19 v h

pub decimal_snoc : (a d : ℕ) → d ≤ 9 → a * 10 + d < 2 ^ 64 → decimal (a * 10 + d) ≡ front a ++ ((48 + d) ∷ [])
unfolding front
decimal_snoc zero d h small = let z : 0 * 10 + d ≡ d = omega arith in rw z (decimal-one d (omega arith))
decimal_snoc (suc n) d h small =
    let q : (suc n * 10 + d) / 10 ≡ suc n = omega arith in
    let r : (suc n * 10 + d) % 10 ≡ d = omega arith in
    decimal-next (suc n * 10 + d) (omega arith) small ∙ rw (q, r)

length_snoc : (v : ℕ) → v < 2 ^ 64 → length (decimal v) ≡ length (front (v / 10)) + 1
length_snoc v small =
    let z : v / 10 * 10 + v % 10 ≡ v = omega arith in
    let low : v % 10 ≤ 9 = omega arith in
    ap (λ (x : ℕ). length (decimal x)) (sym z) ∙ ap length (decimal_snoc (v / 10) (v % 10) low (rw z small)) ∙ length-append (front (v / 10)) ((48 + v % 10) ∷ [])

pub front_some : (v : ℕ) → 0 < v → front v ≡ decimal v
unfolding front
front_some zero h = absurd (omega arith)
front_some (suc n) h = refl

length_front : (v : ℕ) → length (front v) ≤ length (decimal v)
unfolding front
length_front zero = omega arith
length_front (suc n) = omega arith

front-rises : (v : ℕ) → v < 2 ^ 64 → length (front (v / 10)) ≤ length (front v)
front-rises zero small = omega arith
front-rises (suc n) small = rw (front_some (suc n) (omega arith)) (omega (arith, length_snoc (suc n) small))

-- a number without its last k digits has no more digits
upper_digits : (k high rest v : ℕ) → v ≡ high * 10 ^ k + rest → rest < 10 ^ k → v < 2 ^ 64 → length (front high) ≤ length (front v)
upper_digits zero high rest v e h small = let z : v ≡ high = omega arith in rw z (omega arith)
upper_digits (suc k) high rest v e h small =
    le_trans (upper_digits k high (rest / 10) (v / 10) (upper k high rest v e) (omega (arith, pow-suc 10 k)) (omega arith)) (front-rises v small)
  where
    upper : (k high rest v : ℕ) → v ≡ high * 10 ^ suc k + rest → v / 10 ≡ high * 10 ^ k + rest / 10
    upper k high rest v e =
        let tenfold : high * 10 ^ suc k ≡ high * 10 ^ k * 10 = ap (λ (p : ℕ). high * p) (pow-suc 10 k) ∙ sym (mul_assoc high (10 ^ k) 10) in
        omega (arith, e, tenfold)

pub fewer_digits : (k high rest v : ℕ) → v ≡ high * 10 ^ suc k + rest → rest < 10 ^ suc k → v < 2 ^ 64 → length (front high) < length (decimal v)
fewer_digits k high rest v e h small =
    let tenfold : high * 10 ^ suc k ≡ high * 10 ^ k * 10 = ap (λ (p : ℕ). high * p) (pow-suc 10 k) ∙ sym (mul_assoc high (10 ^ k) 10) in
    let most = upper_digits k high (rest / 10) (v / 10) (omega (arith, e, tenfold)) (omega (arith, h, pow-suc 10 k)) (omega arith) in
    omega (arith, length_snoc v small, most)

-- ---- powers and lengths

pub some_digit : (v : ℕ) → v < 2 ^ 64 → 1 ≤ length (decimal v)
some_digit v small = omega (arith, length_snoc v small)

pub at_least : (n v : ℕ) → 10 ^ n ≤ v → v < 2 ^ 64 → n + 1 ≤ length (decimal v)
at_least zero v h small = omega (arith, length_snoc v small)
at_least (suc n) v h small =
    let some : 10 ^ n ≤ v / 10 = omega (arith, h, pow-suc 10 n) in
    let one : 0 < v / 10 = omega (arith, some, ten_pos n) in
    omega (arith, at_least n (v / 10) some (omega arith), length_snoc v small, ap length (front_some (v / 10) one))

pub at_most : (n v : ℕ) → v < 10 ^ suc n → v < 2 ^ 64 → length (decimal v) ≤ suc n
unfolding front
at_most zero v h small = let z : v / 10 ≡ 0 = omega arith in omega (arith, length_snoc v small, ap (λ (x : ℕ). length (front x)) z)
at_most (suc n) v h small =
    let less : v / 10 < 10 ^ suc n = omega (arith, h, pow-suc 10 (suc n)) in
    omega (arith, at_most n (v / 10) less (omega arith), length_snoc v small, length_front (v / 10))
