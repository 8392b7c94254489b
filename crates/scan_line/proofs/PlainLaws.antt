-- Bytes before the end of a line, told by a word of them. Assumes nothing.
use Rattle.std.proofs.Common.{◌≡◌, ℕ, zero, suc, ◌+◌, ◌-◌, ◌*◌, ◌/◌, ◌%◌, ◌^◌, ◌<◌, ◌≤◌, ◌≢◌, [], ◌∷◌, length, take, drop, sym, ap, ◌∙◌, suc-mul, arith, length-drop, take_all, drop-drop, ne_eqb}
use lib.Pow.{mod-pow-add, field, mod-mod-pow}
use lib.Bits.{bit_and, bit_xor, and_block, and_le_r, xor_block, xor_lt}
use lib.Count.{count_trailing_zeros, trailing_le}
use Rattle.model.specs.Bytes.{Bytes, before}
use Rattle.scan_digits.specs.Word.{word_of}
use Rattle.scan_digits.proofs.WordLaws.{filled, trailing}
use Rattle.scan_digits.proofs.ShortLaws.{Bounded, drop_bounded}
use Rattle.scan_line.specs.Plain.{Plain}

-- ---- flags: which bytes may be byte 10

unfoldable flags : ℕ → ℕ → ℕ
flags n w = bit_and ((bit_xor w (filled 10 n) + (filled 254 n + 1)) % 2 ^ (n * 8)) (filled 128 n)

-- a byte whose difference from byte 10 is c has a flag where c is 0
flag_none : (c : ℕ) → c < 256 → bit_and ((c + 255) % 256) 128 ≡ 0 → c ≢ 0
flag_none zero h e z = omega (arith, e)
flag_none (suc c) h e z = omega arith

-- no flag in the m lowest bytes
flags_plain : (m n w : ℕ) → m ≤ n → flags n w % 2 ^ (m * 8) ≡ 0 → Plain m w
unfolding Plain flags
flags_plain zero n w h e = tt
flags_plain (suc m) zero w h e = absurd (omega arith)
flags_plain (suc m) (suc n) w h e =
    let r = w / 256 in
    let b = w % 256 in
    let c = bit_xor b 10 in
    let x = bit_xor w (filled 10 (suc n)) in
    let sum = x + (filled 254 (suc n) + 1) in
    let lowered = sum % 2 ^ (suc n * 8) in
    let whole : r * 256 + b ≡ w = omega arith in
    let byte : c < 256 = xor_lt 8 b 10 (omega arith) (omega arith) in
    let apart : x ≡ bit_xor r (filled 10 n) * 256 + c = ap (λ (y : ℕ). bit_xor y (filled 10 (suc n))) (sym whole) ∙ xor_block 8 r (filled 10 n) b 10 (omega arith) (omega arith) in
    let low : lowered % 256 ≡ (c + 255) % 256 = ap (λ (k : ℕ). sum % 2 ^ k % 256) (suc-mul n 8) ∙ mod-mod-pow sum (n * 8) 8 ∙ last x (bit_xor r (filled 10 n)) c (filled 254 n) apart in
    let parts : lowered / 256 * 256 + lowered % 256 ≡ lowered = omega arith in
    let marks : flags (suc n) w ≡ bit_and (lowered / 256) (filled 128 n) * 256 + bit_and ((c + 255) % 256) 128
    = ap (λ (y : ℕ). bit_and y (filled 128 (suc n))) (sym (ap (λ (k : ℕ). lowered / 256 * 256 + k) (sym low) ∙ parts))
    ∙ and_block 8 (lowered / 256) (filled 128 n) ((c + 255) % 256) 128 (omega arith) (omega arith) in
    let few : bit_and ((c + 255) % 256) 128 ≤ 128 = and_le_r ((c + 255) % 256) 128 in
    let split : (flags (suc n) w / 256 % 2 ^ (m * 8)) * 256 + flags (suc n) w % 256 ≡ 0 = sym (mod-pow-add (flags (suc n) w) (m * 8) 8) ∙ (rw (suc-mul m 8) at e) in
    let here : bit_and ((c + 255) % 256) 128 ≡ 0 = omega (arith, marks, few, split) in
    let some : c ≢ 0 = flag_none c byte here in
    let high : lowered / 256 ≡ (bit_xor r (filled 10 n) + (filled 254 n + 1)) % 2 ^ (n * 8)
    = ap (λ (k : ℕ). sum % 2 ^ k / 256) (suc-mul n 8) ∙ field sum (n * 8) 8
    ∙ ap (λ (k : ℕ). k % 2 ^ (n * 8)) (rest x (bit_xor r (filled 10 n)) c (filled 254 n) apart byte some) in
    let tail : flags (suc n) w / 256 ≡ flags n r = ap (λ (k : ℕ). k / 256) marks ∙ drop-low (bit_and (lowered / 256) (filled 128 n)) few ∙ ap (λ (k : ℕ). bit_and k (filled 128 n)) high in
    let later : flags (suc n) w / 256 % 2 ^ (m * 8) ≡ 0 = omega (arith, split) in
    ((λ z. some (ap (λ (k : ℕ). bit_xor k 10) z)), flags_plain m n r (omega arith) (rw tail at later))
  where
    last : (x y c f : ℕ) → x ≡ y * 256 + c → (x + (f * 256 + 254 + 1)) % 256 ≡ (c + 255) % 256
    last x y c f e = omega arith

    rest : (x y c f : ℕ) → x ≡ y * 256 + c → c < 256 → c ≢ 0 → (x + (f * 256 + 254 + 1)) / 256 ≡ y + (f + 1)
    rest x y c f e h z = omega arith

    drop-low : (q : ℕ) {c : ℕ} → c ≤ 128 → (q * 256 + c) / 256 ≡ q
    drop-low q h = omega arith

-- lowered is the word's difference from bytes 10 with 1 subtracted from each byte
pub count-plain : (w lowered : ℕ) → lowered ≡ (bit_xor w 723401728380766730 + 18374403900871474943) % 2 ^ 64
    → Plain (count_trailing_zeros 64 (bit_and lowered 9259542123273814144) / 8) w × (count_trailing_zeros 64 (bit_and lowered 9259542123273814144) / 8 ≤ 8)
unfolding flags
count-plain w lowered is =
    let f = bit_and lowered 9259542123273814144 in
    let n = count_trailing_zeros 64 f / 8 in
    let most : count_trailing_zeros 64 f ≤ 64 = trailing_le 64 f in
    let within : n ≤ 8 = omega (arith, most) in
    let same : f ≡ flags 8 w = ap (λ (k : ℕ). bit_and k 9259542123273814144) is in
    (flags_plain n 8 w within (ap (λ (k : ℕ). k % 2 ^ (n * 8)) (sym same) ∙ trailing (n * 8) 64 f (omega arith)), within)

-- ---- bytes that are passed

-- n of k bytes are not byte 10
plain-before : (n k : ℕ) (t : Bytes) → Bounded t → n ≤ k → k ≤ length t → Plain n (word_of (take k t)) → length (before 10 t) ≡ n + length (before 10 (drop n t))
unfolding Plain word_of before
plain-before zero k t bytes h l p = omega arith
plain-before (suc n) zero t bytes h l p = absurd (omega arith)
plain-before (suc n) (suc k) [] bytes h l p = absurd (omega arith)
plain-before (suc n) (suc k) (b ∷ bs) bytes h l (here, later) =
    let low : b < 256 = (bytes 0).fits in
    let first : (word_of (take k bs) * 256 + b) % 256 ≡ b = omega (arith, low) in
    let rest : (word_of (take k bs) * 256 + b) / 256 ≡ word_of (take k bs) = omega (arith, low) in
    let others = plain-before n k bs (λ i. bytes (suc i)) (omega arith) (omega arith) (rw rest at later) in
    rw (ne_eqb b 10 (λ z. here (first ∙ z))) (omega (arith, others))

module _ (s : Bytes) (i n : ℕ) (bytes : Bounded s) (within : i + 8 ≤ length s) {w : ℕ} (w-is : w ≡ word_of (take 8 (drop i s))) (few : n ≤ 8) (plain : Plain n w)
    (left : i + length (before 10 (drop i s)) ≡ length (before 10 s)) where
  pub passed : i + n + length (before 10 (drop (i + n) s)) ≡ length (before 10 s)
  passed =
      let more = plain-before n 8 (drop i s) (drop_bounded i s bytes) few (simp length-drop (omega arith)) (rw w-is at plain) in
      omega (arith, left, more, ap (λ (t : Bytes). length (before 10 t)) (drop-drop n i s))

-- what is searched byte by byte is all that is left
module _ (s : Bytes) (i r : ℕ) (within : i ≤ length s) (left : i + length (before 10 (drop i s)) ≡ length (before 10 s)) where
  abbrev pub rest : Bytes
  rest = take (length s - i) (drop i s)

  rest_all : rest ≡ drop i s
  rest_all = take_all (length s - i) (drop i s) (simp length-drop (omega arith))

  pub searched : (r ≡ length (before 10 rest)) × (r ≤ length rest) → (i + r ≡ length (before 10 s)) × (i + r ≤ length s)
  searched (e, l) =
      (omega (arith, left, ap (λ (t : Bytes). length (before 10 t)) rest_all), omega (arith, ap length rest_all, length-drop i s))
