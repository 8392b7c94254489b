-- A record as its kind, its numbers and its last field: what the functions of this crate promise each other. Assumes nothing.
use Rattle.std.specs.Prelude.{ℕ, ◌+◌, ◌≤◌, List, [], ◌∷◌, ◌++◌, map, ◌≡◌, Bool, true, cond, leb, eqb, length, take, drop, Option, Some, None}
use Rattle.model.specs.declared.Fault.{Fault}
use Rattle.model.specs.declared.Kind.{Kind}
use Rattle.model.specs.declared.Kind.TheVariants as Kd
use Rattle.model.specs.declared.Part.{Part}
use Rattle.model.specs.declared.Refusal.{Refusal}
use Rattle.model.specs.declared.Record.{Record}
use Rattle.model.specs.declared.Record.TheVariants.{TestName, SourceFile, FunctionName, FunctionData, FunctionsFound, FunctionsHit, BranchData, BranchesFound, BranchesHit, LineData, LinesFound, LinesHit, EndOfRecord}
use Rattle.model.specs.Bytes.{Bytes, ascii}
use Rattle.model.specs.Number.{decimal}
use Rattle.record_display.specs.declared.fields.Last.{Last}
use Rattle.record_display.specs.declared.fields.Last.TheVariants as L
use Rattle.record_display.specs.declared.fields.Fields.{Fields}

-- the numbers of a record, then "-" or a text
abbrev pub end_number : Option ℕ → List ℕ
end_number (Some n) = n ∷ []
end_number None = []

abbrev pub taken_number : Option ℕ → List ℕ
taken_number (Some n) = n ∷ []
taken_number None = []

abbrev pub taken_last : Option ℕ → Last
taken_last (Some n) = L.Nothing
taken_last None = L.Dash

abbrev pub checksum_last : Option Part → Last
checksum_last (Some p) = L.Text p
checksum_last None = L.Nothing

abbrev pub kind_of : Record → Kind
kind_of (TestName p) = Kd.TestName
kind_of (SourceFile p) = Kd.SourceFile
kind_of (FunctionName n e p) = Kd.FunctionName
kind_of (FunctionData n p) = Kd.FunctionData
kind_of (FunctionsFound n) = Kd.FunctionsFound
kind_of (FunctionsHit n) = Kd.FunctionsHit
kind_of (BranchData l b c t) = Kd.BranchData
kind_of (BranchesFound n) = Kd.BranchesFound
kind_of (BranchesHit n) = Kd.BranchesHit
kind_of (LineData l n c) = Kd.LineData
kind_of (LinesFound n) = Kd.LinesFound
kind_of (LinesHit n) = Kd.LinesHit
kind_of EndOfRecord = Kd.EndOfRecord

abbrev pub numbers_of : Record → List ℕ
numbers_of (TestName p) = []
numbers_of (SourceFile p) = []
numbers_of (FunctionName n e p) = n ∷ end_number e
numbers_of (FunctionData n p) = n ∷ []
numbers_of (FunctionsFound n) = n ∷ []
numbers_of (FunctionsHit n) = n ∷ []
numbers_of (BranchData l b c t) = l ∷ b ∷ c ∷ taken_number t
numbers_of (BranchesFound n) = n ∷ []
numbers_of (BranchesHit n) = n ∷ []
numbers_of (LineData l n c) = l ∷ n ∷ []
numbers_of (LinesFound n) = n ∷ []
numbers_of (LinesHit n) = n ∷ []
numbers_of EndOfRecord = []

abbrev pub last_of : Record → Last
last_of (TestName p) = L.Text p
last_of (SourceFile p) = L.Text p
last_of (FunctionName n e p) = L.Text p
last_of (FunctionData n p) = L.Text p
last_of (FunctionsFound n) = L.Nothing
last_of (FunctionsHit n) = L.Nothing
last_of (BranchData l b c t) = taken_last t
last_of (BranchesFound n) = L.Nothing
last_of (BranchesHit n) = L.Nothing
last_of (LineData l n c) = checksum_last c
last_of (LinesFound n) = L.Nothing
last_of (LinesHit n) = L.Nothing
last_of EndOfRecord = L.Nothing

-- the fields are a record's kind, numbers and last field
pub record FieldsOf (a : Record) (s : Fields) : Type 0 where
  pub kind : s.kind ≡ kind_of a
  pub few : s.count ≤ 4
  pub long : s.count ≤ length s.numbers
  pub numbers : take s.count s.numbers ≡ numbers_of a
  pub last : s.last ≡ last_of a

-- the bytes of the last field
unfoldable pub last_field : Bytes → Last → List Bytes
last_field t L.Nothing = []
last_field t L.Dash = ascii "-" ∷ []
last_field t (L.Text p) = take p.len (drop p.start t) ∷ []

-- its length with the byte before it
unfoldable pub last_len : Last → ℕ
last_len L.Nothing = 0
last_len L.Dash = 2
last_len (L.Text p) = 1 + p.len

-- it lies within the text
unfoldable pub inside : ℕ → Last → Bool
inside n L.Nothing = true
inside n L.Dash = true
inside n (L.Text p) = leb (p.start + p.len) n

-- fields, each with a byte before it: sep before the first, ',' before the others
unfoldable pub separated : ℕ → List Bytes → Bytes
separated sep [] = []
separated sep (f ∷ fs) = sep ∷ f ++ separated 44 fs

-- the numbers as texts
unfoldable pub number_texts : List ℕ → ℕ → List Bytes
number_texts numbers count = map decimal (take count numbers)

-- the byte before a field that comes after some numbers
unfoldable pub sep_after : ℕ → ℕ
sep_after count = cond (eqb count 0) 58 44

-- the tag and the numbers
unfoldable pub head_of : (tag : Kind → Bytes) → Kind → List ℕ → ℕ → Bytes
head_of tag kind numbers count = tag kind ++ separated 58 (number_texts numbers count)

-- the tag, four numbers and byte 10 are at most so many bytes
abbrev pub max_head : ℕ
max_head = 101

-- all fields, and the line
unfoldable pub fields_text : (tag : Kind → Bytes) → Bytes → Kind → List ℕ → ℕ → Last → Bytes
fields_text tag t kind numbers count last = head_of tag kind numbers count ++ separated (sep_after count) (last_field t last)

unfoldable pub line_text : (tag : Kind → Bytes) → Bytes → Kind → List ℕ → ℕ → Last → Bytes
line_text tag t kind numbers count last = fields_text tag t kind numbers count last ++ (10 ∷ [])

-- r says whether the line is at most room bytes long
pub record Fitting (tag : Kind → Bytes) (s : Fields) (room : ℕ) (r : Bool) : Type 0 where
  pub is : r ≡ leb (length (head_of tag s.kind s.numbers s.count) + last_len s.last + 1) room

-- a refusal, with the needed length
abbrev pub needed_at : Fault → ℕ → Refusal
needed_at fault needed = record { fault = fault; text = 0; line = 0; field = 0; needed = needed }
