-- The line that a lent record prints. Assumes nothing.
use Rattle.std.specs.Prelude.{[], ◌∷◌, ◌++◌, ℕ, None}
use Rattle.model.specs.declared.Kind.{Kind}
use Rattle.model.specs.declared.Record.{Record as LentRecord}
use Rattle.model.specs.declared.Record.TheVariants.{LineData}
use Rattle.model.specs.Bytes.{Bytes, newline}
use Rattle.model.specs.Answer.{Answer, accepted, refused}
use Rattle.model.specs.Record.{Record}
use Rattle.model.specs.Line.{print_record}
use Rattle.model.specs.Parts.{record_in}

-- a record's line, with byte 10 after it
abbrev pub line_of : (tag : Kind → Bytes) → Answer Record → Bytes
line_of tag (accepted made) = print_record tag made ++ newline ∷ []
line_of tag (refused r) = []

-- the line of the record that a lent record is; none where a part lies outside the text
unfoldable pub line_in : (tag : Kind → Bytes) → Bytes → LentRecord → Bytes
line_in tag text lent = line_of tag (record_in text lent)

-- a line's record with no checksum: no part of it lies in a text
abbrev pub counted : ℕ → ℕ → LentRecord
counted line count = LineData line count None
