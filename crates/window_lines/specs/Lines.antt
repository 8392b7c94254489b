-- Windows and their lines, as the code meets them. Assumes nothing.
use Rattle.std.specs.Prelude.{ℕ, ◌≤◌, ◌≡◌, [], ◌∷◌, ◌++◌, length, take, Result, Ok, Err}
use Rattle.model.specs.declared.Refusal.{Refusal}
use Rattle.model.specs.Bytes.{Bytes, slash, newline}
use Rattle.model.specs.Answer.{Answer, accepted, refused, ◌>>=◌}
use Rattle.model.specs.Output.{written}
use Rattle.model.specs.Number.{decimal}
use Rattle.model_totals.specs.declared.Ratio.{Ratio}

-- ---- lines

-- two numbers of at most 20 digits, with a byte behind each
abbrev pub max_line : ℕ
max_line = 42

abbrev pub ratio_line : Ratio → Bytes
ratio_line lines = decimal lines.hit ++ slash ∷ decimal lines.found ++ newline ∷ []

-- the line of a window that was counted
abbrev pub line_of : Result Ratio Refusal → Answer Bytes
line_of (Ok lines) = accepted (ratio_line lines)
line_of (Err r) = refused r

-- ---- the lines of all windows, at the front of an output

abbrev pub seen_lines : Bytes → Result ℕ Refusal → Answer Bytes
seen_lines out (Ok n) = accepted (take n out)
seen_lines out (Err r) = refused r

abbrev pub LinesHeld : Bytes → Result ℕ Refusal → Type 0
LinesHeld out (Ok n) = n ≤ length out
LinesHeld out (Err r) = Unit {0}

-- of a call whose answer depends on the length of the output that it writes them to
pub record LinesPut (answer : ℕ → Answer Bytes) (out : Bytes) (r : Result ℕ Refusal) : Type 0 where
  pub is : (room : ℕ) → answer room ≡ (seen_lines out r >>= written room)
  pub held : LinesHeld out r
