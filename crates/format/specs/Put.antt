-- What the writing functions of this crate promise, in the model's definitions. Assumes nothing.
use Rattle.std.specs.Prelude.{ℕ, ◌∷◌, ◌++◌, length}
use Rattle.model.specs.Bytes.{Bytes}
use Rattle.model.specs.Answer.{Answer, accepted, refused}
use Rattle.model.specs.Number.{decimal}
use Rattle.model.specs.Output.{output_after}

-- how many bytes an answer puts into the output
abbrev pub put_len : Answer Bytes → ℕ
put_len (accepted bytes) = length bytes
put_len (refused r) = 0

-- an output with s at its front
abbrev pub over : Bytes → Bytes → Bytes
over s out = output_after (accepted s) out

-- two numbers as fields, each with a byte before it
abbrev pub pair : ℕ → ℕ → ℕ → ℕ → Bytes
pair first a then b = (first ∷ decimal a) ++ (then ∷ decimal b)
