-- A line's answer as the model's. Assumes nothing.
use Rattle.std.specs.Prelude.{◌≡◌, Result, Ok, Err}
use Rattle.model.specs.declared.Record.{Record as LentRecord}
use Rattle.model.specs.declared.Refusal.{Refusal}
use Rattle.model.specs.Bytes.{Bytes}
use Rattle.model.specs.Answer.{Answer, accepted, refused}
use Rattle.model.specs.Record.{Record}
use Rattle.model.specs.Parts.{lent_from}

-- an answer about a line, its end trimmed, is the model's: its text is the part of the line that it ends with
pub data Answers (line : Bytes) : Result LentRecord Refusal → Answer Record → Type 0 where
  read : (made : Record) (lent : LentRecord) → lent ≡ lent_from line made → Answers line (Ok lent) (accepted made)
  refusal : (r : Refusal) → Answers line (Err r) (refused r)
