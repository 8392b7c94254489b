-- Recorded cases in a program's input: a little-endian u16 length, and that many bytes. Assumes nothing.
use Rattle.std.specs.Prelude.{ℕ, ◌+◌, ◌*◌, min, List, length, get_or}

abbrev pub u16_at : List ℕ → ℕ → ℕ
u16_at input at = get_or input at 0 + get_or input (at + 1) 0 * 256

-- a case ends behind its bytes, or with the input where they are not all there
abbrev pub case_end : List ℕ → ℕ → ℕ
case_end input at = min (at + 2 + u16_at input at) (length input)
