-- A word of bytes of a text, the first lowest. Assumes nothing.
use Rattle.std.specs.Prelude.{ℕ, zero, suc, ◌/◌, ◌%◌, ◌≢◌}

-- none of the n lowest bytes of a word is byte 10
unfoldable pub Plain : ℕ → ℕ → Type 0
Plain zero w = Unit {0}
Plain (suc n) w = (w % 256 ≢ 10) × Plain n (w / 256)
