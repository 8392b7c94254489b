-- Records whose texts are parts of a lent text, and the line printer. Assumes nothing.
use Rattle.std.specs.Prelude.{ℕ, ◌+◌, ◌-◌, [], ◌∷◌, ◌++◌, leb, length, take, drop, if◌then◌else◌, Option as LentOption, Some, None}
use Rattle.std.proofs.Math.Option.{Option, none, some}
use Rattle.model.specs.declared.Fault.TheVariants.{PartOutside}
use Rattle.model.specs.declared.Kind.{Kind}
use Rattle.model.specs.declared.Part.{Part}
use Rattle.model.specs.declared.Record.{Record as LentRecord}
use Rattle.model.specs.declared.Record.TheVariants as Lent
use Rattle.model.specs.Bytes.{Bytes, newline}
use Rattle.model.specs.Answer.{Answer, accepted, ◌>>=◌, refuse, on_line}
use Rattle.model.specs.Record.{
  Record,
  test_name,
  source_file,
  function_name,
  function_data,
  functions_found,
  functions_hit,
  branch_data,
  branches_found,
  branches_hit,
  line_data,
  lines_found,
  lines_hit,
  end_of_record,
}
use Rattle.model.specs.Line.{trimmed, read_record, print_record}
use Rattle.model.specs.Output.{written}

-- a part of a text, where it lies in the text
unfoldable pub part_of : Bytes → Part → Answer Bytes
part_of text p = if leb (p.start + p.len) (length text) then accepted (take p.len (drop p.start text)) else refuse PartOutside

-- an optional value of a lent record
unfoldable pub given_in : {A : Type 0} → LentOption A → Option A
given_in (Some a) = some a
given_in None = none

unfoldable pub checksum_in : Bytes → LentOption Part → Answer (Option Bytes)
checksum_in text (Some p) = part_of text p >>= λ bytes. accepted (some bytes)
checksum_in text None = accepted none

-- the record that a lent record is
unfoldable pub record_in : Bytes → LentRecord → Answer Record
record_in text (Lent.TestName p) = part_of text p >>= λ name. accepted (test_name name)
record_in text (Lent.SourceFile p) = part_of text p >>= λ path. accepted (source_file path)
record_in text (Lent.FunctionName start end p) = part_of text p >>= λ name. accepted (function_name start (given_in end) name)
record_in text (Lent.FunctionData count p) = part_of text p >>= λ name. accepted (function_data count name)
record_in text (Lent.FunctionsFound found) = accepted (functions_found found)
record_in text (Lent.FunctionsHit hit) = accepted (functions_hit hit)
record_in text (Lent.BranchData line block branch taken) = accepted (branch_data line block branch (given_in taken))
record_in text (Lent.BranchesFound found) = accepted (branches_found found)
record_in text (Lent.BranchesHit hit) = accepted (branches_hit hit)
record_in text (Lent.LineData line count checksum) = checksum_in text checksum >>= λ given. accepted (line_data line count given)
record_in text (Lent.LinesFound found) = accepted (lines_found found)
record_in text (Lent.LinesHit hit) = accepted (lines_hit hit)
record_in text Lent.EndOfRecord = accepted end_of_record

-- ---- the line reader: each text of a record ends its line, so it is the line's last bytes

-- a text that ends a line, as a part of that line
unfoldable pub end_part : Bytes → Bytes → Part
end_part line text = record { start = length line - length text; len = length text }

unfoldable pub lent_given : {A : Type 0} → Option A → LentOption A
lent_given (some a) = Some a
lent_given none = None

unfoldable pub lent_checksum : Bytes → Option Bytes → LentOption Part
lent_checksum line (some text) = Some (end_part line text)
lent_checksum line none = None

-- a record that was read from a line, its text as a part of the line
unfoldable pub lent_from : Bytes → Record → LentRecord
lent_from line (test_name name) = Lent.TestName (end_part line name)
lent_from line (source_file path) = Lent.SourceFile (end_part line path)
lent_from line (function_name start end name) = Lent.FunctionName start (lent_given end) (end_part line name)
lent_from line (function_data count name) = Lent.FunctionData count (end_part line name)
lent_from line (functions_found found) = Lent.FunctionsFound found
lent_from line (functions_hit hit) = Lent.FunctionsHit hit
lent_from line (branch_data number block branch taken) = Lent.BranchData number block branch (lent_given taken)
lent_from line (branches_found found) = Lent.BranchesFound found
lent_from line (branches_hit hit) = Lent.BranchesHit hit
lent_from line (line_data number count checksum) = Lent.LineData number count (lent_checksum line checksum)
lent_from line (lines_found found) = Lent.LinesFound found
lent_from line (lines_hit hit) = Lent.LinesHit hit
lent_from line end_of_record = Lent.EndOfRecord

module _ (tag : Kind → Bytes) where
  -- a line read, its refusal without the line's number. Bytes 10 and 13 at its end belong to no text
  unfoldable pub lent_record : Bytes → Answer LentRecord
  lent_record line = read_record tag line >>= λ made. accepted (lent_from (trimmed line) made)

  -- a lone line is line 1
  unfoldable pub lent_line : Bytes → Answer LentRecord
  lent_line line = on_line 1 (lent_record line)

  -- the line printer: the record's line, with byte 10 after it
  unfoldable pub print_line : Bytes → LentRecord → ℕ → Answer Bytes
  print_line text lent room = do
    made ← record_in text lent
    written room (print_record tag made ++ newline ∷ [])
