-- A short number: its bytes as a word, and the word's digits as the model reads them. Assumes nothing.
use Rattle.std.proofs.Common.{◌≡◌, ℕ, zero, suc, ◌+◌, ◌-◌, ◌*◌, ◌/◌, ◌%◌, ◌^◌, ◌<◌, ◌≤◌, min, [], ◌∷◌, length, get_or, take, drop, sym, refl, ap, ◌∙◌, subst, le_trans, add-zero, suc-add, zero-add, div-one, arith, length-drop, get_or-drop, take_all, drop-drop, shr-shr, w8, w64, Fits}
use native.Mathlib.Nat.{zero-div}
use lib.Seq.{take-nil}
use lib.Bits.{bit_xor, xor_block, xor_lt}
use Rattle.model.specs.Bytes.{Bytes}
use Rattle.std.specs.Prelude.{Some, Ok}
use Rattle.std.specs.Int.{from_le_bytes}
use Rattle.scan.specs.declared.Number.TheVariants.{Last, More}
use Rattle.scan.specs.Scan.{NumberRead}
use Rattle.scan.proofs.ByteLaws.{drop-next}
use Rattle.scan.proofs.NumberLaws.{Scan, scan_start_lem, scan_end, scan_comma, scan_digit, sign_none, digits_some}
use Rattle.scan_digits.specs.Word.{word_of, Small, value_from, EndOf, ShortRead}
use Rattle.scan_digits.proofs.WordLaws.{filled, digit_of_lem}

abbrev pub Bounded : Bytes → Type 0
Bounded s = (i : ℕ) → Fits w8 (get_or s i 0)

-- ---- a word of bytes

module _ (s : Bytes) (p : ℕ) where
  pub eight_bytes : p + 8 ≤ length s → from_le_bytes w64 (get_or s p 0 ∷ get_or s (p + 1) 0 ∷ get_or s (p + 2) 0 ∷ get_or s (p + 3) 0 ∷ get_or s (p + 4) 0 ∷ get_or s (p + 5) 0 ∷ get_or s (p + 6) 0 ∷ get_or s (p + 7) 0 ∷ []) ≡ word_of (take 8 (drop p s))
  unfolding word_of
  eight_bytes h =
      let a : drop p s ≡ get_or s p 0 ∷ drop (p + 1) s = drop-next 0 s p (omega arith) in
      rw (a, go 1 (omega arith), go 2 (omega arith), go 3 (omega arith), go 4 (omega arith), go 5 (omega arith), go 6 (omega arith), go 7 (omega arith)) (omega arith)
    where
      go : (k : ℕ) → p + k < length s → drop (p + k) s ≡ get_or s (p + k) 0 ∷ drop (p + (k + 1)) s
      go k h =
          let next : p + k + 1 ≡ p + (k + 1) = omega arith in
          drop-next 0 s (p + k) h ∙ ap (λ (n : ℕ). get_or s (p + k) 0 ∷ drop n s) next

-- the lowest bytes dropped
word_shift : (j : ℕ) (s : Bytes) → Bounded s → word_of s / 2 ^ (j * 8) ≡ word_of (drop j s)
unfolding word_of
word_shift zero s h = div-one (word_of s)
word_shift (suc j) [] h = zero-div (2 ^ (suc j * 8))
word_shift (suc j) (b ∷ bs) h =
    let low : b < 256 = (h 0).fits in
    let rest : (word_of bs * 256 + b) / 256 ≡ word_of bs = omega (arith, low) in
    let two : suc j * 8 ≡ 8 + j * 8 = omega arith in
    ap (λ (k : ℕ). (word_of bs * 256 + b) / 2 ^ k) two ∙ sym (shr-shr (word_of bs * 256 + b) 8 (j * 8))
    ∙ ap (λ (k : ℕ). k / 2 ^ (j * 8)) rest ∙ word_shift j bs (λ i. h (suc i))

pub drop_bounded : (n : ℕ) (s : Bytes) → Bounded s → Bounded (drop n s)
drop_bounded zero s h = h
drop_bounded (suc n) [] h = h
drop_bounded (suc n) (b ∷ bs) h = drop_bounded n bs (λ i. h (suc i))

take_bounded : (n : ℕ) (s : Bytes) → Bounded s → Bounded (take n s)
take_bounded zero s h i = record { fits = omega arith }
take_bounded (suc n) [] h i = h i
take_bounded (suc n) (b ∷ bs) h zero = h 0
take_bounded (suc n) (b ∷ bs) h (suc i) = take_bounded n bs (λ k. h (suc k)) i

-- the last eight bytes hold those from a position near the end
drop_of_take : (j n : ℕ) (s : Bytes) → drop j (take (j + n) s) ≡ take n (drop j s)
drop_of_take zero n s = ap (λ (k : ℕ). take k s) (zero-add n)
drop_of_take (suc j) n [] = rw (suc-add j n) (sym (take-nil n))
drop_of_take (suc j) n (b ∷ bs) = rw (suc-add j n) (drop_of_take j n bs)

module _ (s : Bytes) (at p w : ℕ) (bytes : Bounded s) (long : 8 ≤ length s) (within : at < length s) (p-is : p ≡ min at (length s - 8)) (w-is : w ≡ word_of (take 8 (drop p s))) where
  pub word_there : w / 2 ^ ((at - p) * 8) ≡ word_of (take 8 (drop at s))
  word_there =
      let eight : 8 ≡ at - p + (8 - (at - p)) = omega arith in
      let back : p + (at - p) ≡ at = omega arith in
      ap (λ (k : ℕ). k / 2 ^ ((at - p) * 8)) w-is
      ∙ word_shift (at - p) (take 8 (drop p s)) (take_bounded 8 (drop p s) (drop_bounded p s bytes))
      ∙ ap word_of (ap (λ (k : ℕ). drop (at - p) (take k (drop p s))) eight ∙ drop_of_take (at - p) (8 - (at - p)) (drop p s)
      ∙ ap (take (8 - (at - p))) (drop-drop (at - p) p s ∙ ap (λ (k : ℕ). drop k s) back) ∙ same)
    where
      same : take (8 - (at - p)) (drop at s) ≡ take 8 (drop at s)
      same = pick (at - p) refl
        where
          pick : (j : ℕ) → at - p ≡ j → take (8 - j) (drop at s) ≡ take 8 (drop at s)
          pick zero e = refl
          pick (suc j) e =
              let few : length (drop at s) ≤ 8 - suc j = simp length-drop (omega arith) in
              take_all (8 - suc j) (drop at s) few ∙ sym (take_all 8 (drop at s) (omega (arith, few)))

-- ---- the bytes of a text less '0', as a word of n bytes: 48 past the end of the text

unfoldable pub less_zero : ℕ → Bytes → ℕ
unfolding word_of
less_zero n s = bit_xor (word_of (take n s)) (filled 48 n)

less-next : (n b : ℕ) (bs : Bytes) → b < 256 → less_zero (suc n) (b ∷ bs) ≡ less_zero n bs * 256 + bit_xor b 48
unfolding less_zero word_of
less-next n b bs h = xor_block 8 (word_of (take n bs)) (filled 48 n) b 48 h (omega arith)

less_none : (n : ℕ) → less_zero (suc n) [] % 256 ≡ 48
unfolding less_zero word_of
less_none n = omega arith

-- the first digit is one of the text
less_digit : (n : ℕ) (s : Bytes) → Bounded s → less_zero (suc n) s % 256 ≤ 9 → (0 < length s) × (get_or s 0 0 ≡ less_zero (suc n) s % 256 + 48) × (less_zero (suc n) s / 256 ≡ less_zero n (drop 1 s))
less_digit n [] h d = absurd (omega (arith, less_none n))
less_digit n (b ∷ bs) h d =
    let low : bit_xor b 48 < 256 = xor_lt 8 b 48 (h 0).fits (omega arith) in
    let whole = less-next n b bs (h 0).fits in
    let first : less_zero (suc n) (b ∷ bs) % 256 ≡ bit_xor b 48 = omega (arith, whole, low) in
    let is : b ≡ bit_xor b 48 + 48 = digit_of_lem b (h 0).fits (omega (arith, first, d)) in
    (omega arith, is ∙ ap (λ (x : ℕ). x + 48) (sym first), omega (arith, whole, low))

-- ---- a value with so many digits after it is at most this

unfoldable pub most : ℕ → ℕ → ℕ
most zero v = v
most (suc m) v = most m (v * 10 + 9)

most_mono : (m v w : ℕ) → v ≤ w → most m v ≤ most m w
unfolding most
most_mono zero v w h = h
most_mono (suc m) v w h = most_mono m (v * 10 + 9) (w * 10 + 9) (omega arith)

most-above : (m v : ℕ) → v ≤ most m v
unfolding most
most-above zero v = omega arith
most-above (suc m) v = let h = most-above m (v * 10 + 9) in omega (arith, h)

most-eight : (m : ℕ) → m ≤ 8 → most m 0 ≤ 99999999
unfolding most
most-eight m h = go (8 - m) m (omega arith)
  where
    go : (j k : ℕ) → j + k ≡ 8 → most k 0 ≤ 99999999
    go zero k e = let z : k ≡ 8 = omega arith in rw z (omega arith)
    go (suc j) k e = let n = go j (suc k) (omega arith) in let u = most_mono k 0 9 (omega arith) in omega (arith, n, u)

-- ---- the digits read

module _ (max : ℕ) (s : Bytes) (bytes : Bounded s) where
  -- m more digits
  digits_on : (m n i v : ℕ) → m ≤ n → Scan max s i v → most m v ≤ max → Small m (less_zero n (drop i s)) → Scan max s (i + m) (value_from v m (less_zero n (drop i s)))
  unfolding Small value_from most
  digits_on zero n i v h scan k small = rw (add-zero i) scan
  digits_on (suc m) zero i v h scan k small = absurd (omega arith)
  digits_on (suc m) (suc n) i v h scan k (d, small) =
      go (less_zero (suc n) (drop i s) % 256) refl (less_digit n (drop i s) (drop_bounded i s bytes) d)
      (λ w scan k small. digits_on m n (i + 1) w (omega arith) scan k small)
    where
      go : (digit : ℕ) → less_zero (suc n) (drop i s) % 256 ≡ digit
          → (0 < length (drop i s)) × (get_or (drop i s) 0 0 ≡ less_zero (suc n) (drop i s) % 256 + 48) × (less_zero (suc n) (drop i s) / 256 ≡ less_zero n (drop 1 (drop i s)))
          → ((w : ℕ) → Scan max s (i + 1) w → most m w ≤ max → Small m (less_zero n (drop (i + 1) s)) → Scan max s (i + 1 + m) (value_from w m (less_zero n (drop (i + 1) s))))
          → Scan max s (i + suc m) (value_from (v * 10 + less_zero (suc n) (drop i s) % 256) m (less_zero (suc n) (drop i s) / 256))
      go digit e (some, is, later) on =
          let there : i < length s = omega (arith, simp length-drop at some) in
          let byte : get_or s i 0 ≡ digit + 48 = ap (λ (t : Bytes). get_or t 0 0) (sym (drop-next 0 s i there)) ∙ is ∙ ap (λ (x : ℕ). x + 48) e in
          let low : digit ≤ 9 = omega (arith, e, d) in
          let near : most m (v * 10 + digit) ≤ max = le_trans (most_mono m (v * 10 + digit) (v * 10 + 9) (omega (arith, low))) k in
          let fits : v * 10 + digit ≤ max = le_trans (most-above m (v * 10 + digit)) near in
          let next : Scan max s (i + 1) (v * 10 + digit) = scan_digit scan digit there byte low fits in
          let rest : less_zero (suc n) (drop i s) / 256 ≡ less_zero n (drop (i + 1) s) = later ∙ ap (less_zero n) (drop-drop 1 i s) in
          let end : i + suc m ≡ i + 1 + m = omega arith in
          rw (end, e, rest) (on (v * 10 + digit) next near (rw rest at small))

  -- from the front: the first byte is a digit and no sign
  pub digits_read : (n x : ℕ) → x ≡ less_zero 8 s → 0 < n → n ≤ 8 → 99999999 ≤ max → Small n x → Scan max s n (value_from 0 n x)
  unfolding Small
  digits_read zero x e h k l small = absurd (omega arith)
  digits_read (suc n) x e h k l small =
      let (first, rest) = rw e at small in
      let (some, is, later) = less_digit 7 s bytes first in
      let start : Scan max s 0 0 = scan_start_lem refl (sign_none s (λ z. omega (arith, z, some)) (λ z. omega (arith, z, is, first))) in
      let end : 0 + suc n ≡ suc n = omega arith in
      rw e (subst (λ (k : ℕ). Scan max s k (value_from 0 (suc n) (less_zero 8 s))) end (digits_on (suc n) 8 0 0 k start (le_trans (most-eight (suc n) k) l) (rw e at small)))

-- a number at the front of the part s, its first bytes in the word w
module _ (line s : Bytes) (w n v : ℕ) (bytes : Bounded s) (ends : EndOf line s) (w-is : w ≡ word_of (take 8 (drop (length line - length s) line))) (small : Small n (bit_xor w 3472328296227680304)) (few : n ≤ 8) (some : n ≡ 0 → ⊥) (v-is : v ≡ value_from 0 n (bit_xor w 3472328296227680304)) where
  read : (max : ℕ) → 99999999 ≤ max → Scan max s n v
  unfolding less_zero
  read max h =
      let first : w ≡ word_of (take 8 s) = w-is ∙ ap (λ (t : Bytes). word_of (take 8 t)) (sym ends.is) in
      rw v-is (digits_read max s bytes n (bit_xor w 3472328296227680304) (ap (λ (k : ℕ). bit_xor k 3472328296227680304) first) (pos n some) few h small)
    where
      pos : (n : ℕ) → (n ≡ 0 → ⊥) → 0 < n
      pos zero h = absurd (h refl)
      pos (suc n) h = omega arith

  before-end : (n ≡ length s → ⊥) → n < length s
  before-end l = let within = (read 99999999 (omega arith)).within in omega (arith, within, l)

  pub number_there : (n ≡ length s → ⊥) → length line - length s + n < length line
  number_there l = omega (arith, before-end l, ends.within)

  pub number_last : n ≡ length s → ShortRead s (Some (Last v n))
  number_last e = record { is = λ max k. scan_end (read max k) (Ok (Last v n)) (omega (arith, e)) (digits_some n (Last v n) some) }

  pub number_more : (n ≡ length s → ⊥) → get_or line (length line - length s + n) 0 ≡ 44 → ShortRead s (Some (More v n))
  number_more l e =
      let byte : get_or s n 0 ≡ 44 = ap (λ (t : Bytes). get_or t n 0) ends.is ∙ get_or-drop (length line - length s) line n 0 ∙ e in
      record { is = λ max k. scan_comma (read max k) (Ok (More v n)) (before-end l) byte (digits_some n (More v n) some) }

-- one digit and a comma
pub number_digit : (s : Bytes) → 2 ≤ length s → 48 ≤ get_or s 0 0 → get_or s 0 0 ≤ 57 → get_or s 1 0 ≡ 44 → ShortRead s (Some (More (get_or s 0 0 - 48) 1))
number_digit s l b d c = record { is = λ max k. go max k }
  where
    go : (max : ℕ) → 99999999 ≤ max → NumberRead max s (Ok (More (get_or s 0 0 - 48) 1))
    go max k =
        let digit = get_or s 0 0 - 48 in
        let start : Scan max s 0 0 = scan_start_lem refl (sign_none s (λ z. omega (arith, z, l)) (λ z. omega (arith, z, b))) in
        let one : Scan max s 1 (0 * 10 + digit) = scan_digit start digit (omega arith) (omega (arith, b)) (omega arith) (omega arith) in
        let same : 0 * 10 + digit ≡ digit = omega arith in
        scan_comma (rw same at one) (Ok (More digit 1)) (omega (arith, l)) c (digits_some 1 (More digit 1) (λ z. omega (arith, z)))
