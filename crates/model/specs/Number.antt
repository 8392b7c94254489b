-- Numbers as text. Assumes nothing.
use Rattle.std.specs.Prelude.{ℕ, zero, suc, ◌+◌, ◌-◌, ◌*◌, ◌/◌, ◌%◌, Bool, true, false, ◌&&◌, [], ◌∷◌, ◌++◌, leb, ltb, eqb, length, if◌then◌else◌}
use Rattle.model.specs.declared.Counted.{Counted}
use Rattle.model.specs.declared.Fault.TheVariants.{EmptyNumber, InvalidDigit, NumberOverflow, SignedNumber}
use Rattle.model.specs.Bytes.{Bytes, plus}
use Rattle.model.specs.Answer.{Answer, accepted, ◌>>=◌, refuse}

abbrev pub is_digit : ℕ → Bool
is_digit b = leb 48 b && leb b 57

-- value, then each byte in turn: first is it a digit, then does the value still fit
unfoldable pub read_digits : ℕ → ℕ → Bytes → Answer ℕ
read_digits max value [] = accepted value
read_digits max value (b ∷ bs) =
    if is_digit b then if leb (value * 10 + (b - 48)) max then read_digits max (value * 10 + (b - 48)) bs else refuse NumberOverflow else refuse InvalidDigit

-- a number up to max: one or more digits and no sign
unfoldable pub read_number : ℕ → Bytes → Answer ℕ
read_number max [] = refuse EmptyNumber
read_number max (b ∷ bs) = if eqb b plus then refuse SignedNumber else read_digits max 0 (b ∷ bs)

-- the last digits of a number, at most n of them, with no leading zero
unfoldable pub decimal_digits : ℕ → ℕ → Bytes
decimal_digits zero value = []
decimal_digits (suc n) value =
    elim (ltb value 10) [ true ↦ (48 + value) ∷ [] | false ↦ decimal_digits n (value / 10) ++ ((48 + value % 10) ∷ []) ]

-- a u64 in decimal: it has at most twenty digits
unfoldable pub decimal : ℕ → Bytes
decimal value = decimal_digits 20 value

-- a number field: what `read_number` reads of it, each of whose bytes is a digit
unfoldable pub read_field : ℕ → Bytes → Answer Counted
read_field max field = read_number max field >>= λ value. accepted (record { value = value; digits = length field })
