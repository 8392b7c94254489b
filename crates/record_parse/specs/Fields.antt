-- What the field readers promise, in the model's definitions. Assumes nothing.
use Rattle.model.specs.declared.Record.{Record as LentRecord}
use Rattle.model.specs.declared.Refusal.{Refusal}
use Rattle.std.specs.Prelude.{ℕ, suc, ◌+◌, ◌≤◌, ◌≡◌, length, Bool, false, [], ◌∷◌, ltb, eqb, if◌then◌else◌, Option, Result, Some, None, Ok, Err}
use Rattle.model.specs.declared.Fault.{Fault}
use Rattle.model.specs.declared.Fault.TheVariants.{FieldNotFound, TooManyFields}
use Rattle.model.specs.declared.Part.{Part}
use Rattle.model.specs.Bytes.{Bytes, ascii, comma, same_bytes}
use Rattle.model.specs.Number.{is_digit}
use Rattle.scan.specs.declared.Number.{Number}
use Rattle.scan.specs.declared.Number.TheVariants as N
use Rattle.scan.specs.Scan.{number_in}
use Rattle.record_parse.specs.declared.fields.Field.{Field}
use Rattle.record_parse.specs.declared.fields.Field.TheVariants as F

abbrev pub refused_at : Fault → ℕ → Result LentRecord Refusal
refused_at fault field = Err (record { fault = fault; text = 0; line = 0; field = field; needed = 0 })

abbrev pub number_refusal : ℕ → Field → Result LentRecord Refusal
number_refusal field (F.Fault fault) = refused_at fault field
number_refusal field (F.Last value) = refused_at FieldNotFound (field + 1)
number_refusal field (F.More value next) = refused_at TooManyFields 0

-- a number read in the part of a line from start on: what follows its comma is a position of the line
abbrev pub field_of : ℕ → Number → Field
field_of start (N.Last value digits) = F.Last value
field_of start (N.More value digits) = F.More value (start + digits + 1)

abbrev pub in_line : ℕ → Result Number Fault → Field
in_line start (Ok number) = field_of start number
in_line start (Err fault) = F.Fault fault

-- where the next field starts
abbrev pub next_of : Field → ℕ
next_of (F.Last value) = 0
next_of (F.More value next) = next
next_of (F.Fault fault) = 0

abbrev pub value_of : Field → ℕ
value_of (F.Last value) = value
value_of (F.More value next) = value
value_of (F.Fault fault) = 0

pub record NumberField (max start : ℕ) (rest : Bytes) (r : Field) : Type 0 where
  pub is : r ≡ in_line start (number_in max rest)
  pub long : next_of r ≤ start + length rest
  pub most : value_of r ≤ max

-- whether an end line comes first, where so many digits have come before
unfoldable pub end_behind : ℕ → Bytes → Bool
end_behind seen [] = false
end_behind seen (b ∷ bs) = if is_digit b then end_behind (suc seen) bs else if eqb b comma then ltb 0 seen else false

abbrev pub part_from : ℕ → Bytes → Part
part_from start rest = record { start = start; len = length rest }

abbrev pub checksum_from : ℕ → Bytes → Option Part
checksum_from start rest = if same_bytes rest (ascii "-") then None else Some (part_from start rest)
