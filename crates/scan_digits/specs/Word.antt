-- A number of at most eight digits, its bytes as one word. Assumes nothing.
use Rattle.std.specs.Prelude.{◌≡◌, ℕ, zero, suc, ◌+◌, ◌-◌, ◌*◌, ◌/◌, ◌%◌, ◌≤◌, [], ◌∷◌, length, drop, Option, Some, None, Ok}
use Rattle.model.specs.Bytes.{Bytes}
use Rattle.scan.specs.declared.Number.{Number}
use Rattle.scan.specs.Scan.{NumberRead}

-- bytes as one number, the first lowest
unfoldable pub word_of : Bytes → ℕ
word_of [] = 0
word_of (b ∷ bs) = word_of bs * 256 + b

-- the n lowest bytes of a word are the values of digits
unfoldable pub Small : ℕ → ℕ → Type 0
Small zero x = Unit {0}
Small (suc n) x = (x % 256 ≤ 9) × Small n (x / 256)

-- a value, then n digits, the lowest byte first
unfoldable pub value_from : ℕ → ℕ → ℕ → ℕ
value_from value zero x = value
value_from value (suc n) x = value_from (value * 10 + x % 256) n (x / 256)

-- a part that ends a line
pub record EndOf (line part : Bytes) : Type 0 where
  pub within : length part ≤ length line
  pub is : part ≡ drop (length line - length part) line

-- the meaning of an answer about a number up to max: it is known to be short, at most eight digits and after them the end or a comma; or
-- nothing is known
abbrev pub short_is : ℕ → Bytes → Option Number → Type 0
short_is max s (Some number) = NumberRead max s (Ok number)
short_is max s None = Unit {0}

pub record ShortRead (s : Bytes) (r : Option Number) : Type 0 where
  pub is : (max : ℕ) → 99999999 ≤ max → short_is max s r
