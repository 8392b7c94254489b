-- The table of powers of ten, and a number written by subtraction. Assumes nothing.
use Prim.Native.Nat.{ℕ, zero, suc, ◌+◌, ◌-◌, ◌*◌, ◌^◌, ◌≤◌, ◌<◌}
use mathlib.Core.Path.{◌≡◌, refl, sym, ap, ◌∙◌}
use mathlib.Core.Bool.{Bool, true, false, true≢false, ◌&&◌}
use mathlib.Core.List.{List, [], ◌∷◌, ◌++◌}
use native.Mathlib.Omega.{arith}
use native.Mathlib.Numerals.{add-one}
use native.Mathlib.Nat.{lt_of_lt_of_le, lt_of_le_of_lt, add-mul, mul_assoc, mul_comm, mul-one, one-mul, mul-suc, pow-suc, lt_of_mul-lt-mul_right}
use lib.Dec.{eqb, lit≤}
use lib.ListN.{length, get_or, set, drop, length-append, length-set}
use lib.Seq.{drop-drop, drop_at}
use borrow.Author.Tests.{eqb-true}
use Rattle.model.specs.Bytes.{Bytes}
use Rattle.model.specs.Number.{decimal}
use Rattle.model.specs.Output.{output_after}
use Rattle.format.specs.Put.{over}
use Rattle.format.specs.Digits.{Subtracted, front, Begun}
use Rattle.format.specs.declared.Digit.{Digit}
use Rattle.format.specs.declared.Written.{Written}
use Rattle.format.proofs.OverLaws.{last_out}
use Rattle.format.proofs.DecimalLaws.{decimal-most, decimal_snoc, front_some, fewer_digits, some_digit, at_least, at_most}

-- ---- the table

abbrev pub powers : List ℕ
powers =
    1
    ∷ 10
    ∷ 100
    ∷ 1000
    ∷ 10000
    ∷ 100000
    ∷ 1000000
    ∷ 10000000
    ∷ 100000000
    ∷ 1000000000
    ∷ 10000000000
    ∷ 100000000000
    ∷ 1000000000000
    ∷ 10000000000000
    ∷ 100000000000000
    ∷ 1000000000000000
    ∷ 10000000000000000
    ∷ 100000000000000000
    ∷ 1000000000000000000
    ∷ 10000000000000000000
    ∷ []

-- the first entry is p, and each is ten times the one before
abbrev Tenfold : ℕ → List ℕ → Bool
Tenfold p [] = true
Tenfold p (x ∷ xs) = eqb x p && Tenfold (p * 10) xs

entry_at : (p : ℕ) (xs : List ℕ) → Tenfold p xs ≡ true → (k : ℕ) → k < length xs → get_or xs k 0 ≡ p * 10 ^ k
entry_at p [] t k h = absurd (omega arith)
entry_at p (x ∷ xs) t k h = go (eqb x p) refl t k h (λ r j l. entry_at (p * 10) xs r j l)
  where
    go : (b : Bool) → eqb x p ≡ b → (b && Tenfold (p * 10) xs) ≡ true → (k : ℕ) → k < suc (length xs)
        → (Tenfold (p * 10) xs ≡ true → (j : ℕ) → j < length xs → get_or xs j 0 ≡ p * 10 * 10 ^ j) → get_or (x ∷ xs) k 0 ≡ p * 10 ^ k
    go false e t k h rest = absurd (true≢false (sym t))
    go true e t zero h rest = eqb-true x p e ∙ sym (mul-one p)
    go true e t (suc k) h rest = rest t k (omega arith) ∙ mul_assoc p 10 (10 ^ k) ∙ ap (λ (q : ℕ). p * q) (mul_comm 10 (10 ^ k) ∙ sym (pow-suc 10 k))

-- entry k is 10^k
pub power_at : (k : ℕ) → k < 20 → get_or powers k 0 ≡ 10 ^ k
power_at k h = entry_at 1 powers refl k h ∙ one-mul (10 ^ k)

-- the last is the largest that a u64 holds
pub powers_end : (10 ^ 19 < 2 ^ 64) × (2 ^ 64 ≤ 10 ^ 20)
powers_end = (lit≤ tt, lit≤ tt)

-- ---- how many digits

ten_mono : (a j : ℕ) → 10 ^ a ≤ 10 ^ (a + j)
ten_mono a zero = let z : a + 0 ≡ a = omega arith in rw z (omega arith)
ten_mono a (suc j) = let z : a + suc j ≡ suc (a + j) = omega arith in rw z (omega (arith, ten_mono a j, pow-suc 10 (a + j)))

-- v has n digits or more, and fewer than twenty
pub record Counting (v power n : ℕ) : Type 0 where
  pub is : power ≡ 10 ^ n
  pub some : 1 ≤ n
  pub few : n ≤ 19
  pub least : n ≤ length (decimal v)
  pub small : v < 10 ^ 19

module _ (v : ℕ) where
  within : v < 10 ^ 19 → v < 2 ^ 64
  within h = lt_of_lt_of_le h (lit≤ tt)

  pub count-start : v < 10000000000000000000 → Counting v 10 1
  count-start h = record { is = refl; some = omega arith; few = omega arith; least = some_digit v (within h); small = h }

  pub count_20 : 10000000000000000000 ≤ v → v < 2 ^ 64 → 20 ≡ length (decimal v)
  count_20 h small = omega (arith, at_least 19 v h small, decimal-most v)

  module _ (power n : ℕ) (w : Counting v power n) where
    more : power ≤ v → n + 1 ≤ length (decimal v)
    more h = at_least n v (rw w.is at h) (within w.small)

    most : length (decimal v) ≤ 19
    most = at_most 18 v w.small (within w.small)

    pub count_fits : power ≤ v → power * 10 < 2 ^ 64
    count_fits h =
        let end : n + 1 + (18 - n) ≡ 19 = omega (arith, more h, most) in
        let next : power * 10 ≡ 10 ^ (n + 1) = ap (λ (p : ℕ). p * 10) w.is ∙ sym (pow-suc 10 n) ∙ ap (λ (k : ℕ). 10 ^ k) (sym (add-one n)) in
        let last : 10 ^ (n + 1) ≤ 10 ^ 19 = rw end at (ten_mono (n + 1) (18 - n)) in
        rw next (lt_of_le_of_lt last (lit≤ tt))

    pub count-more : power ≤ v → Counting v (power * 10) (n + 1)
    count-more h = record {
      is = ap (λ (p : ℕ). p * 10) w.is ∙ sym (pow-suc 10 n) ∙ ap (λ (k : ℕ). 10 ^ k) (sym (add-one n));
      some = omega arith;
      few = omega (arith, more h, most);
      least = more h;
      small = w.small;
    }

    pub count-end : v < power → n ≡ length (decimal v)
    count-end h = go n w.some w.is w.least
      where
        go : (n : ℕ) → 1 ≤ n → power ≡ 10 ^ n → n ≤ length (decimal v) → n ≡ length (decimal v)
        go zero s e l = absurd (omega arith)
        go (suc n) s e l = omega (arith, l, at_most n v (rw e at h) (within w.small))

-- ---- one digit

-- the power was subtracted `digit` times, and rest is left
pub record Taking (v power rest digit : ℕ) : Type 0 where
  pub all : v ≡ digit * power + rest
  pub most : v < 10 * power
  pub few : digit ≤ 9

pub taken_none : (v power : ℕ) → v < 10 * power → Taking v power v 0
taken_none v power h = record { all = omega arith; most = h; few = omega arith }

module _ (v power rest digit : ℕ) (w : Taking v power rest digit) where
  pub taken_next : power ≤ rest → Taking v power (rest - power) (digit + 1)
  taken_next h =
      let all : v ≡ (digit + 1) * power + (rest - power) = omega (arith, w.all, add-mul digit 1 power, one-mul power, h) in
      let less : (digit + 1) * power < 10 * power = omega (arith, all, w.most) in
      let few = lt_of_mul-lt-mul_right power less in
      record { all = all; most = w.most; few = omega (arith, few) }

  pub taken-all : rest < power → Subtracted v power (record { digit = digit; rest = rest })
  taken-all h = record { all = w.all; left = h; few = w.few }

-- ---- a number begun

factor_most : (n p rest v : ℕ) → rest < p → v ≡ n * p + rest → n ≤ v
factor_most n zero rest v h e = absurd (omega arith)
factor_most n (suc p) rest v h e = omega (arith, mul-suc n p)

pub begun_none : (v k : ℕ) (out : Bytes) → v < 10 ^ k → Begun v k out out (record { at = 0; rest = v })
unfolding front output_after
begun_none v k out h = record { high = 0; all = omega arith; below = h; long = refl; held = refl }

-- outputs written over twice
over-over : (s t old : Bytes) → length s ≤ length t → over t (over s old) ≡ over t old
unfolding output_after
over-over s t old h =
    let more : length s + (length t - length s) ≡ length t = omega arith in
    let both : drop (length t) (s ++ drop (length s) old) ≡ drop (length t) old =
    ap (λ (k : ℕ). drop k (s ++ drop (length s) old)) (sym more) ∙ sym (drop-drop (length t - length s) (length s) (s ++ drop (length s) old))
    ∙ ap (drop (length t - length s)) (drop_at s (drop (length s) old) (length s) refl)
    ∙ drop-drop (length t - length s) (length s) old ∙ ap (λ (k : ℕ). drop k old) more in
    ap (λ (l : Bytes). t ++ l) both

pub begun_again : {v k : ℕ} {old out : Bytes} {w : Written} → Begun v k old out w → Begun v k out out w
begun_again {old = old} w = record {
  high = w.high;
  all = w.all;
  below = w.below;
  long = w.long;
  held = rw w.held (sym (over-over (front w.high) (front w.high) old (omega arith)));
}

pub begun_over : {v k j : ℕ} {old mid out : Bytes} {a b : Written} → Begun v k old mid a → Begun v j mid out b → a.at ≤ b.at → Begun v j old out b
begun_over {old = old} u w h = record {
  high = w.high;
  all = w.all;
  below = w.below;
  long = w.long;
  held = w.held ∙ rw u.held (over-over (front u.high) (front w.high) old (omega (arith, u.long, w.long)));
}

-- the next digit: the one at the power of k − 1
module _ (v k : ℕ) (old out : Bytes) (at rest power : ℕ) (small : v < 2 ^ 64) (some : 0 < k) (is : power ≡ 10 ^ (k - 1)) (w : Begun v k old out (record { at = at; rest = rest })) where
  tenfold : 10 ^ k ≡ power * 10
  tenfold = go k some is
    where
      go : (k : ℕ) → 0 < k → power ≡ 10 ^ (k - 1) → 10 ^ k ≡ power * 10
      go zero h e = absurd (omega arith)
      go (suc k) h e = let z : suc k - 1 ≡ k = omega arith in pow-suc 10 k ∙ ap (λ (p : ℕ). p * 10) (sym (e ∙ ap (λ (j : ℕ). 10 ^ j) z))

  pub digit_below : rest < 10 * power
  digit_below = omega (arith, w.below, tenfold)

  pub digit_room : at < length (decimal v)
  digit_room = go k some w.all w.below
    where
      go : (k : ℕ) → 0 < k → v ≡ w.high * 10 ^ k + rest → rest < 10 ^ k → at < length (decimal v)
      go zero h e b = absurd (omega arith)
      go (suc k) h e b = omega (arith, w.long, fewer_digits k w.high rest v e b small)

  -- v has no digit there
  pub digit_none : v < power → Begun v (k - 1) old out (record { at = at; rest = rest })
  digit_none h = go w.high w.all w.long w.held
    where
      go : (high : ℕ) → v ≡ high * 10 ^ k + rest → at ≡ length (front high) → out ≡ over (front high) old → Begun v (k - 1) old out (record { at = at; rest = rest })
      go zero e l o = record { high = 0; all = omega arith; below = omega (arith, is); long = l; held = o }
      go (suc n) e l o = absurd (omega (arith, add-mul n 1 (10 ^ k), one-mul (10 ^ k), tenfold))

  module _ (d : Digit) (t : Subtracted rest power d) (there : power ≤ v) (room : length (decimal v) ≤ length old) where
    next : ℕ
    next = w.high * 10 + d.digit

    next-all : v ≡ next * power + d.rest
    unfolding next
    next-all =
        let high : w.high * 10 ^ k ≡ w.high * 10 * power = ap (λ (p : ℕ). w.high * p) (tenfold ∙ mul_comm power 10) ∙ sym (mul_assoc w.high 10 power) in
        omega (arith, w.all, t.all, high, add-mul (w.high * 10) d.digit power)

    next_some : 0 < next
    next_some = go next next-all
      where
        go : (n : ℕ) → v ≡ n * power + d.rest → 0 < n
        go zero e = absurd (omega (arith, t.left))
        go (suc n) e = omega arith

    next_small : next < 2 ^ 64
    next_small = omega (arith, factor_most next power d.rest v t.left next-all)

    next-front : front next ≡ front w.high ++ ((48 + d.digit) ∷ [])
    unfolding next
    next-front = front_some next next_some ∙ decimal_snoc w.high d.digit t.few next_small

    pub digit_next : Begun v (k - 1) old (set out at (48 + d.digit)) (record { at = at + 1; rest = d.rest })
    digit_next = record {
      high = next;
      all = rw (sym is) next-all;
      below = omega (arith, t.left, is);
      long = rw next-front (omega (arith, w.long, length-append (front w.high) ((48 + d.digit) ∷ [])));
      held = rw next-front (last_out old out (front w.high) at (48 + d.digit) w.held w.long (omega (arith, digit_room)));
    }

-- ---- a run over the powers from number k − 1 down to number `to`; the run began behind `first` bytes

pub record Running (v to : ℕ) (old out : Bytes) (first rest at k : ℕ) : Type 0 where
  pub begun : Begun v k old out (record { at = at; rest = rest })
  pub least : 1 ≤ to
  pub lower : to ≤ k
  pub upper : k ≤ 20
  pub grown : first ≤ at
  pub size : length out ≡ length old
  pub room : length (decimal v) ≤ length old

pub run-start : {v from to : ℕ} {out : Bytes} {w : Written} → Begun v from out out w → from ≤ 20 → 1 ≤ to → to ≤ from → length (decimal v) ≤ length out
    → Running v to out out w.at w.rest w.at from
run-start b u l h room = record { begun = b; least = l; lower = h; upper = u; grown = omega arith; size = refl; room = room }

module _ (v to : ℕ) (old out : Bytes) (first rest at k : ℕ) (small : v < 2 ^ 64) (r : Running v to old out first rest at k) where
  pub run_end : k ≤ to → Begun v to old out (record { at = at; rest = rest })
  run_end h = let z : k ≡ to = omega (arith, r.lower) in rw z at r.begun

  module _ (h : to < k) (power : ℕ) (is : power ≡ 10 ^ (k - 1)) where
    some : 0 < k
    some = omega arith

    pub run-below : rest < 10 * power
    run-below = digit_below v k old out at rest power small some is r.begun

    pub run_at : at < length out
    run_at = omega (arith, digit_room v k old out at rest power small some is r.begun, r.room, r.size)

    pub run-few : at < 20
    run-few = omega (arith, digit_room v k old out at rest power small some is r.begun, decimal-most v)

    pub run_none : v < power → Running v to old out first rest at (k - 1)
    run_none l = record {
      begun = digit_none v k old out at rest power small some is r.begun l;
      least = r.least;
      lower = omega arith;
      upper = omega (arith, r.upper);
      grown = r.grown;
      size = r.size;
      room = r.room;
    }

    pub run_digit : (d : Digit) → power ≤ v → Subtracted rest power d → Running v to old (set out at (48 + d.digit)) first d.rest (at + 1) (k - 1)
    run_digit d l t = record {
      begun = digit_next v k old out at rest power small some is r.begun d t l r.room;
      least = r.least;
      lower = omega arith;
      upper = omega (arith, r.upper);
      grown = omega (arith, r.grown);
      size = length-set out at (48 + d.digit) ∙ r.size;
      room = r.room;
    }

-- ---- the last digit

module _ {v : ℕ} {old out : Bytes} {w : Written} (small : v < 2 ^ 64) (room : length (decimal v) ≤ length old) (b : Begun v 1 old out w) where
  last-all : v ≡ b.high * 10 + w.rest
  last-all = omega (arith, b.all)

  pub last-below : w.rest < 10
  last-below = omega (arith, b.below)

  last-is : decimal v ≡ front b.high ++ ((48 + w.rest) ∷ [])
  last-is = ap decimal last-all ∙ decimal_snoc b.high w.rest (omega (arith, last-below)) (rw (sym last-all) small)

  pub last-long : w.at + 1 ≡ length (decimal v)
  last-long = rw last-is (omega (arith, b.long, length-append (front b.high) ((48 + w.rest) ∷ [])))

  pub last-held : set out w.at (48 + w.rest) ≡ over (decimal v) old
  last-held = rw last-is (last_out old out (front b.high) w.at (48 + w.rest) b.held b.long (omega (arith, last-long)))
