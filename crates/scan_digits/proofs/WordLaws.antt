-- A word's bytes: the operations on words work byte by byte. Assumes nothing.
use Rattle.std.proofs.Common.{◌≡◌, ℕ, zero, suc, ◌+◌, ◌-◌, ◌*◌, ◌/◌, ◌%◌, ◌^◌, ◌<◌, ◌≤◌, sym, refl, ap, ◌∙◌, subst, ap₂, mod-eq_of_lt, mul_assoc, suc-mul, suc-add, zero-add, mul-one, add-one, arith, pow-add, w64, Fits}
use native.Mathlib.Nat.{mul-mod_left, mod-one}
use lib.Pow.{mod-pow-add, field, mod-mod-pow, shl-shr}
use lib.Bits.{bit_and, bit_or, bit_xor, and_block, or_block, xor_block, and_le_l, and_le_r, and_high, and_mask, or_lt, or_add_and, xor_zero_r, xor_add_and}
use lib.Count.{count_trailing_zeros, trailing_le, under}
use Rattle.scan_digits.specs.Word.{Small, value_from}

-- a byte, n times
abbrev pub filled : ℕ → ℕ → ℕ
filled b zero = 0
filled b (suc n) = filled b n * 256 + b

-- ---- flags: which bytes are above 9

unfoldable pub flags : ℕ → ℕ → ℕ
flags n x = bit_and (bit_or ((x + filled 118 n) % 2 ^ (n * 8)) x) (filled 128 n)

-- the lowest byte of two words and the rest apart
marks : (n a r c b : ℕ) → c < 256 → b < 256 → bit_and (bit_or (a * 256 + c) (r * 256 + b)) (filled 128 (suc n)) ≡ bit_and (bit_or a r) (filled 128 n) * 256 + bit_and (bit_or c b) 128
marks n a r c b h k =
    ap (λ (y : ℕ). bit_and y (filled 128 (suc n))) (or_block 8 a r c b h k)
    ∙ and_block 8 (bit_or a r) (filled 128 n) (bit_or c b) 128 (or_lt 8 c b h k) (omega arith)

-- a number whose highest bit of eight is not set
none_of_two : (q : ℕ) → q < 2 → q % 2 ≡ 0 → q ≡ 0
none_of_two q h e = omega arith

top_none : (y : ℕ) → y < 256 → bit_and y 128 ≡ 0 → y < 128
top_none y h e =
    let none : (y / 128 % 2) * 128 ≡ 0 = sym (and_high y 1 7) ∙ e in
    let even : y / 128 % 2 ≡ 0 = omega (arith, none) in
    let below : y / 128 ≡ 0 = none_of_two (y / 128) (omega arith) even in
    omega (arith, below)

-- neither number has more than the two together
or_above : (a b : ℕ) → (a ≤ bit_or a b) × (b ≤ bit_or a b)
or_above a b = (omega (arith, or_add_and a b, and_le_r a b), omega (arith, or_add_and a b, and_le_l a b))

byte_none : (b : ℕ) → b < 256 → bit_and (bit_or ((b + 118) % 256) b) 128 ≡ 0 → b ≤ 9
byte_none b h e =
    let near : bit_or ((b + 118) % 256) b < 128 = top_none (bit_or ((b + 118) % 256) b) (or_lt 8 ((b + 118) % 256) b (omega arith) h) e in
    let (left, right) = or_above ((b + 118) % 256) b in
    let small : b < 128 = omega (arith, near, right) in
    let raised : (b + 118) % 256 ≡ b + 118 = mod-eq_of_lt (omega (arith, small)) in
    omega (arith, near, left, raised)

-- no flag in the m lowest bytes
flags_small : (m n x : ℕ) → m ≤ n → flags n x % 2 ^ (m * 8) ≡ 0 → Small m x
unfolding Small flags
flags_small zero n x h e = tt
flags_small (suc m) zero x h e = absurd (omega arith)
flags_small (suc m) (suc n) x h e =
    let r = x / 256 in
    let b = x % 256 in
    let sum = x + filled 118 (suc n) in
    let raised = sum % 2 ^ (suc n * 8) in
    let whole : r * 256 + b ≡ x = omega arith in
    let parts : raised / 256 * 256 + raised % 256 ≡ raised = omega arith in
    let low : raised % 256 ≡ (b + 118) % 256 = ap (λ (k : ℕ). sum % 2 ^ k % 256) (suc-mul n 8) ∙ mod-mod-pow sum (n * 8) 8 ∙ last (filled 118 n) in
    let apart : flags (suc n) x ≡ bit_and (bit_or (raised / 256) r) (filled 128 n) * 256 + bit_and (bit_or ((b + 118) % 256) b) 128
    = ap₂ (λ (y z : ℕ). bit_and (bit_or y z) (filled 128 (suc n))) (sym (ap (λ (k : ℕ). raised / 256 * 256 + k) (sym low) ∙ parts)) (sym whole)
    ∙ marks n (raised / 256) r ((b + 118) % 256) b (omega arith) (omega arith) in
    let few : bit_and (bit_or ((b + 118) % 256) b) 128 ≤ 128 = and_le_r (bit_or ((b + 118) % 256) b) 128 in
    let split : (flags (suc n) x / 256 % 2 ^ (m * 8)) * 256 + flags (suc n) x % 256 ≡ 0 = sym (mod-pow-add (flags (suc n) x) (m * 8) 8) ∙ (rw (suc-mul m 8) at e) in
    let here : bit_and (bit_or ((b + 118) % 256) b) 128 ≡ 0 = omega (arith, apart, few, split) in
    let small : b ≤ 9 = byte_none b (omega arith) here in
    let high : raised / 256 ≡ (r + filled 118 n) % 2 ^ (n * 8) = ap (λ (k : ℕ). sum % 2 ^ k / 256) (suc-mul n 8) ∙ field sum (n * 8) 8 ∙ ap (λ (k : ℕ). k % 2 ^ (n * 8)) (rest (filled 118 n) small) in
    let tail : flags (suc n) x / 256 ≡ flags n r = ap (λ (k : ℕ). k / 256) apart ∙ drop-low (bit_and (bit_or (raised / 256) r) (filled 128 n)) few ∙ ap (λ (k : ℕ). bit_and (bit_or k r) (filled 128 n)) high in
    let later : flags (suc n) x / 256 % 2 ^ (m * 8) ≡ 0 = omega (arith, split) in
    (small, flags_small m n r (omega arith) (rw tail at later))
  where
    last : (f : ℕ) → (x + (f * 256 + 118)) % 256 ≡ (x % 256 + 118) % 256
    last f = omega arith

    rest : (f : ℕ) → x % 256 ≤ 9 → (x + (f * 256 + 118)) / 256 ≡ x / 256 + f
    rest f h = omega arith

    drop-low : (q : ℕ) {c : ℕ} → c ≤ 128 → (q * 256 + c) / 256 ≡ q
    drop-low q h = omega arith

-- as many lowest digits as are counted are zero
pub trailing : (j k f : ℕ) → j ≤ count_trailing_zeros k f → f % 2 ^ j ≡ 0
unfolding count_trailing_zeros
trailing zero k f h = mod-one f
trailing (suc j) zero f h = absurd (omega arith)
trailing (suc j) (suc k) f h = go (f % 2) refl h (trailing j k (f / 2))
  where
    go : (d : ℕ) → f % 2 ≡ d → suc j ≤ under d (count_trailing_zeros k (f / 2)) → (j ≤ count_trailing_zeros k (f / 2) → f / 2 % 2 ^ j ≡ 0) → f % 2 ^ suc j ≡ 0
    go zero e g rest =
        let later : f / 2 % 2 ^ j ≡ 0 = rest (omega arith) in
        let apart : f % 2 ^ (j + 1) ≡ f / 2 % 2 ^ j * 2 + f % 2 = mod-pow-add f j 1 in
        rw (← add-one j) (omega (arith, apart, later, e))
    go (suc d) e g rest = absurd (omega arith)

pub count_fits : (f : ℕ) → Fits w64 (count_trailing_zeros 64 f)
count_fits f = record { fits = omega (arith, trailing_le 64 f) }

-- raised is the word with 118 added to each byte
pub count_small : (x raised : ℕ) → raised ≡ (x + 8536140394893047414) % 2 ^ 64 → (Small (count_trailing_zeros 64 (bit_and (bit_or raised x) 9259542123273814144) / 8) x) × (count_trailing_zeros 64 (bit_and (bit_or raised x) 9259542123273814144) / 8 ≤ 8)
unfolding flags
count_small x raised is =
    let f = bit_and (bit_or raised x) 9259542123273814144 in
    let n = count_trailing_zeros 64 f / 8 in
    let most : count_trailing_zeros 64 f ≤ 64 = trailing_le 64 f in
    let within : n ≤ 8 = omega (arith, most) in
    let same : f ≡ flags 8 x = ap (λ (k : ℕ). bit_and (bit_or k x) 9259542123273814144) is in
    (flags_small n 8 x within (ap (λ (k : ℕ). k % 2 ^ (n * 8)) (sym same) ∙ trailing (n * 8) 64 f (omega arith)), within)

-- ---- a digit's byte

-- what differs from '0' by a digit's value is a digit
pub digit_of_lem : (b : ℕ) → b < 256 → bit_xor b 48 ≤ 9 → b ≡ bit_xor b 48 + 48
digit_of_lem b h d =
    let whole : b / 16 * 16 + b % 16 ≡ b = omega arith in
    let apart : bit_xor b 48 ≡ bit_xor (b / 16) 3 * 16 + bit_xor (b % 16) 0 = ap (λ (x : ℕ). bit_xor x 48) (sym whole) ∙ xor_block 4 (b / 16) 3 (b % 16) 0 (omega arith) (omega arith) in
    let low : bit_xor (b % 16) 0 ≡ b % 16 = xor_zero_r (b % 16) in
    let none : bit_xor (b / 16) 3 ≡ 0 = omega (arith, apart, d) in
    let sum : bit_xor (b / 16) 3 + bit_and (b / 16) 3 * 2 ≡ b / 16 + 3 = xor_add_and (b / 16) 3 in
    let three : b / 16 ≡ 3 = omega (arith, none, sum, and_le_l (b / 16) 3, and_le_r (b / 16) 3) in
    omega (arith, apart, low, none, three, whole)

-- ---- eight digits' value

-- pairs of digits next to each other
abbrev pub pairs : ℕ → ℕ
pairs x = x * 10 + x / 256

-- the lowest pair, and the rest two bytes on
pair-low : (x : ℕ) → x % 256 ≤ 9 → x / 256 % 256 ≤ 9 → pairs x % 256 ≡ x % 256 * 10 + x / 256 % 256
pair-low x h k = omega (arith, h, k)

pair-next : (x : ℕ) → x % 256 ≤ 9 → x / 256 % 256 ≤ 9 → x / 256 / 256 % 256 ≤ 9 → pairs x / 65536 ≡ pairs (x / 256 / 256)
pair-next x h k l = omega (arith, h, k, l)

-- the even bytes of a word
keep_low : (p m : ℕ) → bit_and p (m * 65536 + 255) ≡ bit_and (p / 65536) m * 65536 + p % 256
keep_low p m =
    let whole : p / 65536 * 65536 + p % 65536 ≡ p = omega arith in
    let low : bit_and (p % 65536) 255 ≡ p % 65536 % 256 = and_mask (p % 65536) 8 in
    let byte : p % 65536 % 256 ≡ p % 256 = omega arith in
    ap (λ (y : ℕ). bit_and y (m * 65536 + 255)) (sym whole) ∙ and_block 16 (p / 65536) m (p % 65536) 255 (omega arith) (omega arith)
    ∙ ap (λ (y : ℕ). bit_and (p / 65536) m * 65536 + y) (low ∙ byte)

keep_even : (p : ℕ) → bit_and p 71777214294589695 ≡ p % 256 + p / 65536 % 256 * 65536 + p / 65536 / 65536 % 256 * 4294967296 + p / 65536 / 65536 / 65536 % 256 * 281474976710656
keep_even p =
    let a = keep_low p 1095233372415 in
    let b = keep_low (p / 65536) 16711935 in
    let c = keep_low (p / 65536 / 65536) 255 in
    let d : bit_and (p / 65536 / 65536 / 65536) 255 ≡ p / 65536 / 65536 / 65536 % 256 = and_mask (p / 65536 / 65536 / 65536) 8 in
    omega (arith, a, b, c, d)

-- two fours of digits from four twos
fours : (t p q r s : ℕ) → p ≤ 99 → q ≤ 99 → r ≤ 99 → s ≤ 99 → t ≡ p + q * 65536 + r * 4294967296 + s * 281474976710656 → ((t * 100 + t / 65536) % 65536 ≡ p * 100 + q) × ((t * 100 + t / 65536) / 4294967296 % 65536 ≡ r * 100 + s)
fours t p q r s a b c d e =
    let next : t / 65536 ≡ q + r * 65536 + s * 4294967296 = omega (arith, e, a) in
    let sum : t * 100 + t / 65536 ≡ (s * 100 * 65536 + (r * 100 + s)) * 4294967296 + ((q * 100 + r) * 65536 + (p * 100 + q)) = omega (arith, e, next) in (
      ap (λ (k : ℕ). k % 65536) sum ∙ lowest (s * 100 * 65536 + (r * 100 + s)) (q * 100 + r) (p * 100 + q) (omega arith),
      ap (λ (k : ℕ). k / 4294967296 % 65536) sum ∙ ap (λ (k : ℕ). k % 65536) (above (s * 100 * 65536 + (r * 100 + s)) ((q * 100 + r) * 65536 + (p * 100 + q)) (omega arith)) ∙ low (s * 100) (r * 100 + s) (omega arith),
    )
  where
    low : (h l : ℕ) → l < 65536 → (h * 65536 + l) % 65536 ≡ l
    low h l k = omega arith

    lowest : (h m l : ℕ) → l < 65536 → (h * 4294967296 + (m * 65536 + l)) % 65536 ≡ l
    lowest h m l k = omega arith

    above : (h l : ℕ) → l < 4294967296 → (h * 4294967296 + l) / 4294967296 ≡ h
    above h l k = omega arith

two_digits : {v a b : ℕ} → v ≡ a * 10 + b → a ≤ 9 → b ≤ 9 → v ≤ 99
two_digits e h k = omega arith

-- eight digits by twos
pub twos_value : (x : ℕ) → Small 8 x → (bit_and (pairs x) 71777214294589695 * 100 + bit_and (pairs x) 71777214294589695 / 65536) % 65536 * 10000 + (bit_and (pairs x) 71777214294589695 * 100 + bit_and (pairs x) 71777214294589695 / 65536) / 4294967296 % 65536 ≡ value_from 0 8 x
unfolding Small value_from
twos_value x (a, (b, (c, (d, (e, (f, (g, (h, u)))))))) =
    let second : pairs x / 65536 ≡ pairs (x / 256 / 256) = pair-next x a b c in
    let third : pairs x / 65536 / 65536 ≡ pairs (x / 256 / 256 / 256 / 256) = ap (λ (y : ℕ). y / 65536) second ∙ pair-next (x / 256 / 256) c d e in
    let fourth : pairs x / 65536 / 65536 / 65536 ≡ pairs (x / 256 / 256 / 256 / 256 / 256 / 256) = ap (λ (y : ℕ). y / 65536) third ∙ pair-next (x / 256 / 256 / 256 / 256) e f g in
    let one = pair-low x a b in
    let two = ap (λ (y : ℕ). y % 256) second ∙ pair-low (x / 256 / 256) c d in
    let three = ap (λ (y : ℕ). y % 256) third ∙ pair-low (x / 256 / 256 / 256 / 256) e f in
    let four = ap (λ (y : ℕ). y % 256) fourth ∙ pair-low (x / 256 / 256 / 256 / 256 / 256 / 256) g h in
    let (low, high) = fours (bit_and (pairs x) 71777214294589695) (pairs x % 256) (pairs x / 65536 % 256) (pairs x / 65536 / 65536 % 256) (pairs x / 65536 / 65536 / 65536 % 256) (two_digits one a b) (two_digits two c d) (two_digits three e f) (two_digits four g h) (keep_even (pairs x)) in
    rw (low, high, one, two, three, four) (omega arith)

pub small-most : (x : ℕ) → Small 8 x → x < 2 ^ 64 → x ≤ 651061555542690057
unfolding Small
small-most x (a, (b, (c, (d, (e, (f, (g, (h, u)))))))) k = omega (arith, a, b, c, d, e, f, g, h, k)

pub tens_fit : (x : ℕ) → Small 8 x → Fits w64 x → Fits w64 (x * 10)
tens_fit x h k = record { fits = omega (arith, small-most x h k.fits) }

pub pairs_fit : (x : ℕ) → Small 8 x → Fits w64 x → Fits w64 (x * 10 + x / 256)
pairs_fit x h k = record { fits = omega (arith, small-most x h k.fits) }

pub twos_fit : (p : ℕ) → Fits w64 (bit_and p 71777214294589695 * 100)
twos_fit p = record { fits = omega (arith, and_le_r p 71777214294589695) }

pub fours_fit : (p : ℕ) → Fits w64 (bit_and p 71777214294589695 * 100 + bit_and p 71777214294589695 / 65536)
fours_fit p = record { fits = omega (arith, and_le_r p 71777214294589695) }

-- ---- n digits moved up to eight

shift_more : (y j : ℕ) → y * 2 ^ (suc j * 8) ≡ y * 2 ^ (j * 8) * 256
shift_more y j = ap (λ (k : ℕ). y * 2 ^ k) (suc-mul j 8) ∙ ap (λ (k : ℕ). y * k) (pow-add 2 (j * 8) 8) ∙ sym (mul_assoc y (2 ^ (j * 8)) 256)

-- zeros before the digits
module _ (n y : ℕ) where
  small-up : (j : ℕ) → Small n y → Small (j + n) (y * 2 ^ (j * 8))
  unfolding Small
  small-up zero h = rw (zero-add n, mul-one y) h
  small-up (suc j) h =
      let low : y * 2 ^ (j * 8) * 256 % 256 ≡ 0 = omega arith in
      let rest : y * 2 ^ (j * 8) * 256 / 256 ≡ y * 2 ^ (j * 8) = omega arith in
      rw (suc-add j n, shift_more y j) ((omega (arith, low)), rw rest (small-up j h))

  value-up : (j : ℕ) → value_from 0 (j + n) (y * 2 ^ (j * 8)) ≡ value_from 0 n y
  unfolding value_from
  value-up zero = rw (zero-add n, mul-one y)
  value-up (suc j) =
      let low : y * 2 ^ (j * 8) * 256 % 256 ≡ 0 = omega arith in
      let rest : y * 2 ^ (j * 8) * 256 / 256 ≡ y * 2 ^ (j * 8) = omega arith in
      rw (suc-add j n, shift_more y j, value_from, low, rest) (value-up j)

-- what is above the digits is removed
low_byte : (n x : ℕ) → x % 2 ^ (suc n * 8) % 256 ≡ x % 256
low_byte n x = ap (λ (k : ℕ). x % 2 ^ k % 256) (suc-mul n 8) ∙ mod-mod-pow x (n * 8) 8

low-rest : (n x : ℕ) → x % 2 ^ (suc n * 8) / 256 ≡ x / 256 % 2 ^ (n * 8)
low-rest n x = ap (λ (k : ℕ). x % 2 ^ k / 256) (suc-mul n 8) ∙ field x (n * 8) 8

small_low : (n x : ℕ) → Small n x → Small n (x % 2 ^ (n * 8))
unfolding Small
small_low zero x h = tt
small_low (suc n) x (a, h) = (rw (low_byte n x) a, rw (low-rest n x) (small_low n (x / 256) h))

value_low : (n v x : ℕ) → value_from v n (x % 2 ^ (n * 8)) ≡ value_from v n x
unfolding value_from
value_low zero v x = refl
value_low (suc n) v x = rw (low_byte n x, low-rest n x) (value_low n (v * 10 + x % 256) (x / 256))

-- the word moved up
moved : (n j x : ℕ) → j + n ≡ 8 → x * 2 ^ (j * 8) % 2 ^ 64 ≡ x % 2 ^ (n * 8) * 2 ^ (j * 8)
moved n j x e =
    let sum : n * 8 + j * 8 ≡ 64 = omega arith in
    ap (λ (k : ℕ). x * 2 ^ (j * 8) % 2 ^ k) (sym sum) ∙ mod-pow-add (x * 2 ^ (j * 8)) (n * 8) (j * 8)
    ∙ ap₂ (λ (a b : ℕ). (a % 2 ^ (n * 8)) * 2 ^ (j * 8) + b) (shl-shr x (j * 8)) (mul-mod_left x (2 ^ (j * 8)))
    ∙ omega arith

module _ (n x : ℕ) (few : n ≤ 8) where
  up : x * 2 ^ (64 - n * 8) % 2 ^ 64 ≡ x % 2 ^ (n * 8) * 2 ^ ((8 - n) * 8)
  up =
      let s : 64 - n * 8 ≡ (8 - n) * 8 = omega arith in
      ap (λ (k : ℕ). x * 2 ^ k % 2 ^ 64) s ∙ moved n (8 - n) x (omega arith)

  eight : 8 - n + n ≡ 8
  eight = omega arith

  pub moved_small : Small n x → Small 8 (x * 2 ^ (64 - n * 8) % 2 ^ 64)
  moved_small h = rw up (subst (λ (k : ℕ). Small k (x % 2 ^ (n * 8) * 2 ^ ((8 - n) * 8))) eight (small-up n (x % 2 ^ (n * 8)) (8 - n) (small_low n x h)))

  pub moved_value : (r : ℕ) → r ≡ value_from 0 8 (x * 2 ^ (64 - n * 8) % 2 ^ 64) → r ≡ value_from 0 n x
  moved_value r e =
      e ∙ ap (value_from 0 8) up ∙ ap (λ (k : ℕ). value_from 0 k (x % 2 ^ (n * 8) * 2 ^ ((8 - n) * 8))) (sym eight)
      ∙ value-up n (x % 2 ^ (n * 8)) (8 - n) ∙ value_low n 0 x
