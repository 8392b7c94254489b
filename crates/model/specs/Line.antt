-- One line: `Record::from_str` and `Display for Record`. Assumes nothing.
use Rattle.std.specs.Prelude.{ℕ, zero, suc, Bool, true, false, ◌&&◌, ◌||◌, List, [], ◌∷◌, ◌++◌, leb, eqb, if◌then◌else◌}
use Rattle.std.proofs.Math.Option.{Option, none, some}
use Rattle.model.specs.declared.Fault.TheVariants.{UnknownRecord, FieldNotFound, TooManyFields, EndBeforeStart}
use Rattle.model.specs.declared.Kind.{Kind}
use Rattle.model.specs.declared.Kind.TheVariants.{
  TestName,
  SourceFile,
  FunctionName,
  FunctionData,
  FunctionsFound,
  FunctionsHit,
  BranchData,
  BranchesFound,
  BranchesHit,
  LineData,
  LinesFound,
  LinesHit,
  EndOfRecord,
}
use Rattle.model.specs.Bytes.{Bytes, ascii, newline, return, comma, colon, same_bytes, before, after, joined}
use Rattle.model.specs.Answer.{Answer, accepted, refused, ◌>>=◌, refuse, refuse_field, on_line}
use Rattle.model.specs.Limits.{u32_max, u64_max}
use Rattle.model.specs.Number.{is_digit, read_number, decimal}
use Rattle.model.specs.Record.{
  Record,
  test_name,
  source_file,
  function_name,
  function_data,
  functions_found,
  functions_hit,
  branch_data,
  branches_found,
  branches_hit,
  line_data,
  lines_found,
  lines_hit,
  end_of_record,
}
use Rattle.model.specs.Tags.{all_kinds}

-- ---- reading

-- a byte in front of a line whose end is trimmed
unfoldable pub before_trimmed : ℕ → Bytes → Bytes
before_trimmed b [] = if eqb b newline || eqb b return then [] else b ∷ []
before_trimmed b (c ∷ cs) = b ∷ c ∷ cs

-- bytes 10 and 13 are dropped from the end
unfoldable pub trimmed : Bytes → Bytes
trimmed [] = []
trimmed (b ∷ bs) = before_trimmed b (trimmed bs)

-- the rest of a body from field k on, where it has that many; fields are parted by commas and numbered from 1
unfoldable pub from_field : ℕ → Bytes → Option Bytes
from_field zero body = none
from_field (suc zero) body = some body
from_field (suc (suc k)) body = elim (from_field (suc k) body) [ none ↦ none | some rest ↦ after comma rest ]

-- the place of a number's fault is its field
unfoldable pub in_field : ℕ → Answer ℕ → Answer ℕ
in_field k (accepted a) = accepted a
in_field k (refused r) = refuse_field r.fault k

-- field k, a number up to max
unfoldable pub number_field : ℕ → ℕ → Bytes → Answer ℕ
number_field max k body =
    elim (from_field k body) [ none ↦ refuse_field FieldNotFound k | some rest ↦ in_field k (read_number max (before comma rest)) ]

-- field k to the end, a text, commas included
unfoldable pub text_field : ℕ → Bytes → Answer Bytes
text_field k body = elim (from_field k body) [ none ↦ refuse_field FieldNotFound k | some rest ↦ accepted rest ]

-- field k, a number up to max, or "-" for none
unfoldable pub taken_field : ℕ → ℕ → Bytes → Answer (Option ℕ)
taken_field max k body =
    elim (from_field k body) [
      | none ↦ refuse_field FieldNotFound k
      | some rest ↦
          if same_bytes (before comma rest) (ascii "-") then accepted none
          else in_field k (read_number max (before comma rest)) >>= λ taken. accepted (some taken)
    ]

-- field k to the end, a checksum, commas included; none where it is absent or "-"
unfoldable pub checksum_field : ℕ → Bytes → Option Bytes
checksum_field k body =
    elim (from_field k body) [ none ↦ none | some rest ↦ if same_bytes rest (ascii "-") then none else some rest ]

-- a record where the body has no field k
unfoldable pub last_before : ℕ → Bytes → Record → Answer Record
last_before k body made = elim (from_field k body) [ none ↦ accepted made | some rest ↦ refuse TooManyFields ]

unfoldable pub read_one : (ℕ → Record) → Bytes → Answer Record
read_one made body = do
  number ← number_field u32_max 1 body
  last_before 2 body (made number)

-- ---- FN

unfoldable pub all_digits : Bytes → Bool
all_digits [] = true
all_digits (b ∷ bs) = is_digit b && all_digits bs

-- one digit or more, and nothing else
unfoldable pub is_digits : Bytes → Bool
is_digits [] = false
is_digits (b ∷ bs) = is_digit b && all_digits bs

-- what follows FN's first comma begins with an end line: digits alone up to a second comma
unfoldable pub begins_with_end : Bytes → Bool
begins_with_end rest = elim (after comma rest) [ none ↦ false | some name ↦ is_digits (before comma rest) ]

-- an end line must not be below its start line
unfoldable pub with_end : ℕ → ℕ → Bytes → Answer Record
with_end start end name = if leb start end then accepted (function_name start (some end) name) else refuse EndBeforeStart

-- what follows the start line: an end line and a name, or a name
unfoldable pub read_function : ℕ → Bytes → Bytes → Answer Record
read_function start body rest =
    if begins_with_end rest
    then (number_field u32_max 2 body >>= λ end. text_field 3 body >>= λ name. with_end start end name)
    else accepted (function_name start none rest)

-- ---- bodies

-- the body of a line of each kind
unfoldable pub read_body : Kind → Bytes → Answer Record
read_body TestName body = accepted (test_name body)
read_body SourceFile body = accepted (source_file body)
read_body FunctionName body = do
  start ← number_field u32_max 1 body
  rest ← text_field 2 body
  read_function start body rest
read_body FunctionData body = do
  count ← number_field u64_max 1 body
  name ← text_field 2 body
  accepted (function_data count name)
read_body FunctionsFound body = read_one functions_found body
read_body FunctionsHit body = read_one functions_hit body
read_body BranchData body = do
  line ← number_field u32_max 1 body
  block ← number_field u32_max 2 body
  branch ← number_field u32_max 3 body
  taken ← taken_field u64_max 4 body
  last_before 5 body (branch_data line block branch taken)
read_body BranchesFound body = read_one branches_found body
read_body BranchesHit body = read_one branches_hit body
read_body LineData body = do
  line ← number_field u32_max 1 body
  count ← number_field u64_max 2 body
  accepted (line_data line count (checksum_field 3 body))
read_body LinesFound body = read_one lines_found body
read_body LinesHit body = read_one lines_hit body
read_body EndOfRecord body = accepted end_of_record

-- the body: all after the first ':', or empty
unfoldable pub body_of : Bytes → Bytes
body_of line = elim (after colon line) [ none ↦ [] | some body ↦ body ]

module _ (tag : Kind → Bytes) where
  -- the kind among these that has a tag
  unfoldable pub kind_among : List Kind → Bytes → Option Kind
  kind_among [] bytes = none
  kind_among (kind ∷ kinds) bytes = if same_bytes bytes (tag kind) then some kind else kind_among kinds bytes

  -- a line whose end is trimmed
  unfoldable pub read_trimmed : Bytes → Answer Record
  read_trimmed line = elim (kind_among all_kinds (before colon line)) [ none ↦ refuse UnknownRecord | some kind ↦ read_body kind (body_of line) ]

  -- a line, its refusal without the line's number
  unfoldable pub read_record : Bytes → Answer Record
  read_record line = read_trimmed (trimmed line)

  -- a lone line is line 1
  unfoldable pub read_line : Bytes → Answer Record
  read_line line = on_line 1 (read_record line)

-- ---- printing

-- the field of an end line, where there is one
unfoldable pub print_end : Option ℕ → List Bytes
print_end none = []
print_end (some end) = decimal end ∷ []

-- a taken count, or "-"
unfoldable pub print_taken : Option ℕ → Bytes
print_taken none = ascii "-"
print_taken (some taken) = decimal taken

-- the field of a checksum, where there is one
unfoldable pub print_checksum : Option Bytes → List Bytes
print_checksum none = []
print_checksum (some checksum) = checksum ∷ []

module _ (tag : Kind → Bytes) where
  -- a tag, ':' and fields with commas between them
  unfoldable pub print_fields : Kind → List Bytes → Bytes
  print_fields kind fields = tag kind ++ colon ∷ joined fields

  -- a record as a line, without byte 10
  unfoldable pub print_record : Record → Bytes
  print_record (test_name name) = print_fields TestName (name ∷ [])
  print_record (source_file path) = print_fields SourceFile (path ∷ [])
  print_record (function_name start end name) = print_fields FunctionName (decimal start ∷ (print_end end ++ name ∷ []))
  print_record (function_data count name) = print_fields FunctionData (decimal count ∷ name ∷ [])
  print_record (functions_found found) = print_fields FunctionsFound (decimal found ∷ [])
  print_record (functions_hit hit) = print_fields FunctionsHit (decimal hit ∷ [])
  print_record (branch_data line block branch taken) =
      print_fields BranchData (decimal line ∷ decimal block ∷ decimal branch ∷ print_taken taken ∷ [])
  print_record (branches_found found) = print_fields BranchesFound (decimal found ∷ [])
  print_record (branches_hit hit) = print_fields BranchesHit (decimal hit ∷ [])
  print_record (line_data line count checksum) = print_fields LineData (decimal line ∷ decimal count ∷ print_checksum checksum)
  print_record (lines_found found) = print_fields LinesFound (decimal found ∷ [])
  print_record (lines_hit hit) = print_fields LinesHit (decimal hit ∷ [])
  print_record end_of_record = tag EndOfRecord
