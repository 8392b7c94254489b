-- Bytes that make one number are the same, and the prefix that two byte strings share grows. Assumes nothing.
use mathlib.Core.Path.{◌≡◌, refl, sym, ap, ap₂, ◌∙◌}
use mathlib.Core.Logic.{◌≢◌}
use mathlib.Core.List.{[], ◌∷◌, ◌++◌}
use Prim.Native.Nat.{ℕ, zero, suc, ◌+◌, ◌*◌, ◌^◌, ◌≤◌, ◌<◌, min}
use native.Mathlib.Nat.{mul_comm, mul_assoc, pow-succ'}
use native.Mathlib.Omega.{arith}
use mir.Syntax.{w8}
use mir.Val.{Fits}
use lib.ListN.{length, get_or, take, drop, length-drop}
use lib.Seq.{take-add, length-take-le, drop-cons, drop-drop}
use Rattle.model.specs.Bytes.{Bytes}
use Rattle.compare.specs.Prefixes.{number_of, IsNumber, CommonPrefix}

-- ---- bytes as a number

-- what is known of the bytes behind a reference
abbrev AllFit : Bytes → Type 0
AllFit s = (k : ℕ) → Fits w8 (get_or s k 0)

number_append : (xs ys : Bytes) → number_of (xs ++ ys) ≡ number_of xs + 256 ^ length xs * number_of ys
number_append [] ys = omega arith
number_append (b ∷ bs) ys =
    let rest : number_of (bs ++ ys) ≡ number_of bs + 256 ^ length bs * number_of ys = number_append bs ys in
    let shift : 256 ^ suc (length bs) * number_of ys ≡ 256 * (256 ^ length bs * number_of ys)
    = ap (λ (k : ℕ). k * number_of ys) (pow-succ' 256 (length bs)) ∙ mul_assoc 256 (256 ^ length bs) (number_of ys) in
    omega arith

-- a part of one byte
pub one_at : (s : Bytes) (i : ℕ) → i < length s → take 1 (drop i s) ≡ get_or s i 0 ∷ []
one_at s i h = rw (drop-cons s i 0)

pub one_byte : (s : Bytes) (i : ℕ) → i + 1 ≤ length s → AllFit s → IsNumber s i 1 (get_or s i 0)
one_byte s i h l = record { is = sym (ap number_of (one_at s i (omega arith)) ∙ omega arith); fits = omega (arith, l i) }

-- a number in two halves
pub two_halves : (s : Bytes) (i half p q : ℕ) → i + half ≤ length s → IsNumber s i half p → IsNumber s (i + half) half q
    → p + q * 256 ^ half ≡ number_of (take (half + half) (drop i s))
two_halves s i half p q h m n =
    let size : length (take half (drop i s)) ≡ half = length-take-le half (drop i s) (rw length-drop (omega arith)) in
    sym (ap number_of (take-add half half (drop i s) ∙ ap (λ (t : Bytes). take half (drop i s) ++ take half t) (drop-drop half i s))
    ∙ number_append (take half (drop i s)) (take half (drop (i + half) s))
    ∙ rw (size, ← m.is, ← n.is) (ap (λ (k : ℕ). p + k) (mul_comm (256 ^ half) q)))

-- bytes that make one number are the same
one_number : (width : ℕ) (a b : Bytes) (i : ℕ) → AllFit a → AllFit b → i + width ≤ length a → i + width ≤ length b
    → number_of (take width (drop i a)) ≡ number_of (take width (drop i b)) → take width (drop i a) ≡ take width (drop i b)
one_number zero a b i f g h l e = refl
one_number (suc width) a b i f g h l e =
    let in_a : i < length a = omega arith in
    let in_b : i < length b = omega arith in
    let sums : get_or a i 0 + 256 * number_of (take width (drop (suc i) a)) ≡ get_or b i 0 + 256 * number_of (take width (drop (suc i) b))
    = rw (drop-cons a i 0, drop-cons b i 0) at e in
    let first : get_or a i 0 ≡ get_or b i 0 = omega (arith, f i, g i) in
    let rest : number_of (take width (drop (suc i) a)) ≡ number_of (take width (drop (suc i) b)) = omega (arith, f i, g i) in
    rw (drop-cons a i 0, drop-cons b i 0)
    (ap₂ (λ (x : ℕ) (l : Bytes). x ∷ l) first (one_number width a b (suc i) f g (omega arith) (omega arith) rest))

-- ---- the prefix as it grows

-- the first i bytes are the same, of the n that both have
pub record Sharing (a b : Bytes) (n i : ℕ) : Type 0 where
  pub most : i ≤ n
  pub bound : n ≡ min (length a) (length b)
  pub alike : take i a ≡ take i b

pub sharing_start : (a b : Bytes) (n : ℕ) → n ≡ min (length a) (length b) → Sharing a b n 0
sharing_start a b n e = record { most = omega arith; bound = e; alike = refl }

pub sharing_from : (a b : Bytes) (n i width : ℕ) → n ≡ min (length a) (length b) → CommonPrefix width a b i → Sharing a b n i
sharing_from a b n i width e σ = record { most = omega (arith, σ.left, σ.right); bound = e; alike = σ.alike }

module _ {a b : Bytes} {n i : ℕ} (σ : Sharing a b n i) (width : ℕ) where
  sharing_on : i + width ≤ n → take width (drop i a) ≡ take width (drop i b) → Sharing a b n (i + width)
  sharing_on h e = record {
    most = h;
    bound = σ.bound;
    alike = rw (take-add i width a, take-add i width b) (ap₂ (λ (x y : Bytes). x ++ y) σ.alike e);
  }

  sharing_stop : (i + width ≤ n → take width (drop i a) ≢ take width (drop i b)) → CommonPrefix width a b i
  sharing_stop d = record {
    left = omega (arith, σ.most, σ.bound);
    right = omega (arith, σ.most, σ.bound);
    alike = σ.alike;
    differ = λ l m. d (omega (arith, σ.bound));
  }

  pub sharing_done : n < i + width → CommonPrefix width a b i
  sharing_done h = sharing_stop (λ l. absurd (omega arith))

-- by words and by bytes
module _ {a b : Bytes} {n i : ℕ} (σ : Sharing a b n i) where
  pub word-alike : (x y : ℕ) → AllFit a → AllFit b → i + 8 ≤ n → IsNumber a i 8 x → IsNumber b i 8 y → x ≡ y → Sharing a b n (i + 8)
  word-alike x y f g h p q e = sharing_on σ 8 h (one_number 8 a b i f g (omega (arith, σ.bound)) (omega (arith, σ.bound)) (sym p.is ∙ e ∙ q.is))

  pub word_differs : (x y : ℕ) → IsNumber a i 8 x → IsNumber b i 8 y → x ≢ y → CommonPrefix 8 a b i
  word_differs x y p q d = sharing_stop σ 8 (λ h e. d (p.is ∙ ap number_of e ∙ sym q.is))

  module _ (h : i < n) where
    in_a : take 1 (drop i a) ≡ get_or a i 0 ∷ []
    in_a = one_at a i (omega (arith, σ.bound))

    in_b : take 1 (drop i b) ≡ get_or b i 0 ∷ []
    in_b = one_at b i (omega (arith, σ.bound))

    pub byte_alike : get_or a i 0 ≡ get_or b i 0 → Sharing a b n (i + 1)
    byte_alike e = sharing_on σ 1 (omega arith) (in_a ∙ ap (λ (x : ℕ). x ∷ []) e ∙ sym in_b)

    pub byte_differs : get_or a i 0 ≢ get_or b i 0 → CommonPrefix 1 a b i
    byte_differs d = sharing_stop σ 1 (λ k e. d (let l : get_or a i 0 ∷ [] ≡ get_or b i 0 ∷ [] = sym in_a ∙ e ∙ in_b in cc))
