-- Bytes as a number, and what two byte strings begin with in common. Assumes nothing.
use Rattle.std.specs.Prelude.{ℕ, ◌+◌, ◌*◌, ◌^◌, ◌≤◌, ◌<◌, ◌≡◌, ◌≢◌, [], ◌∷◌, length, take, drop}
use Rattle.model.specs.Bytes.{Bytes}

-- the first byte is the number's lowest
abbrev pub number_of : Bytes → ℕ
number_of [] = 0
number_of (b ∷ bs) = b + 256 * number_of bs

-- r is the number that the width bytes from place i on make
pub record IsNumber (s : Bytes) (i width r : ℕ) : Type 0 where
  pub is : r ≡ number_of (take width (drop i s))
  pub fits : r < 256 ^ width

-- the first n bytes of a and b are the same, but not the width bytes after them
pub record CommonPrefix (width : ℕ) (a b : Bytes) (n : ℕ) : Type 0 where
  pub left : n ≤ length a
  pub right : n ≤ length b
  pub alike : take n a ≡ take n b
  pub differ : n + width ≤ length a → n + width ≤ length b → take width (drop n a) ≢ take width (drop n b)
