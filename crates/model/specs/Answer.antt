-- What a call answers: a value, or a refusal, which is a fault with its place. Assumes nothing.
use Rattle.std.specs.Prelude.{ℕ, min, List, [], ◌∷◌}
use Rattle.ordmap.specs.Result.{Result}
pub use Rattle.ordmap.specs.Result.{accepted, refused, ◌>>=◌}
use Rattle.ordmap.specs.Gathering.{map_refused}
use Rattle.model.specs.declared.Fault.{Fault}
use Rattle.model.specs.declared.Fault.TheVariants.{
  UnknownRecord,
  FieldNotFound,
  TooManyFields,
  EmptyNumber,
  InvalidDigit,
  NumberOverflow,
  UnexpectedRecord,
  UnexpectedEof,
  CallOverflow,
  TooManyEntries,
  UnmatchedFunctionLine,
  UnmatchedChecksum,
  CountOverflow,
  OutputTooShort,
  RangesFull,
  MalformedBundle,
  PartOutside,
  MalformedRanges,
  SignedNumber,
  RepeatedRevision,
  MalformedTags,
  EqualTags,
  EndBeforeStart,
  WidthOutside,
  SecondSourceFile,
  DifferentKeys,
  LeastAboveGreatest,
  MalformedLabs,
}
use Rattle.model.specs.declared.Refusal.{Refusal}
use Rattle.model.specs.Limits.{u64_max}

-- ---- "What a caller gets back"

-- a fault's number
abbrev pub number_of : Fault → ℕ
-- tag unknown
number_of UnknownRecord = 1
-- field missing
number_of FieldNotFound = 2
-- too many fields
number_of TooManyFields = 3
-- number empty; bad digit; too large
number_of EmptyNumber = 4
number_of InvalidDigit = 5
number_of NumberOverflow = 6
-- TN inside a section
number_of UnexpectedRecord = 7
-- text ends inside a section
number_of UnexpectedEof = 8
-- FNDA sum past 2^64 − 1
number_of CallOverflow = 9
-- more than E entries
number_of TooManyEntries = 10
-- start lines differ; checksums differ
number_of UnmatchedFunctionLine = 11
number_of UnmatchedChecksum = 12
-- line or branch sum past 2^64 − 1
number_of CountOverflow = 13
-- output shorter than the bytes to be written
number_of OutputTooShort = 14
-- range list full
number_of RangesFull = 15
-- bundle not well formed
number_of MalformedBundle = 16
-- record's text part outside the lent text
number_of PartOutside = 17
-- range list not well formed
number_of MalformedRanges = 18
-- number with a plus sign
number_of SignedNumber = 19
-- run with the same revision twice
number_of RepeatedRevision = 20
-- table of tags not well formed; two equal tags in it
number_of MalformedTags = 21
number_of EqualTags = 22
-- end line below the start line
number_of EndBeforeStart = 23
-- window width 0 or above 16
number_of WidthOutside = 24
-- second SF in a section
number_of SecondSourceFile = 25
-- the two texts do not hold the same keys
number_of DifferentKeys = 27
-- a least count above its greatest
number_of LeastAboveGreatest = 28
-- lab number outside 1 to 8, or not one lab number for each text
number_of MalformedLabs = 29

-- a refusal's number and values: text, line, field and needed length
unfoldable pub refusal_values : Refusal → List ℕ
refusal_values r = number_of r.fault ∷ r.text ∷ r.line ∷ r.field ∷ r.needed ∷ []

-- ---- answers

abbrev pub Answer : Type 0 → Type 0
Answer A = Result Refusal A

module _ {A : Type 0} where
  -- an answer as the caller gets it: a refusal by its number and values
  abbrev pub with_values : Answer A → Result (List ℕ) A
  with_values (accepted a) = accepted a
  with_values (refused r) = refused (refusal_values r)

-- a fault with no place
abbrev pub unplaced : Fault → Refusal
unplaced fault = record { fault = fault; text = 0; line = 0; field = 0; needed = 0 }

module _ {A : Type 0} where
  abbrev pub refuse : Fault → Answer A
  refuse fault = refused (unplaced fault)

  -- a refusal at a field
  abbrev pub refuse_field : Fault → ℕ → Answer A
  refuse_field fault field = refused (record { fault = fault; text = 0; line = 0; field = field; needed = 0 })

  -- the refusal of an output that is too short. The needed length is a u64 and saturates at 2^64 − 1
  abbrev pub refuse_length : ℕ → Answer A
  refuse_length needed = refused (record { fault = OutputTooShort; text = 0; line = 0; field = 0; needed = min needed u64_max })

  -- the same answer, its refusal at a line
  abbrev pub on_line : ℕ → Answer A → Answer A
  on_line line = map_refused (λ r. record { fault = r.fault; text = r.text; line = line; field = r.field; needed = r.needed })

  -- the same answer, its refusal in a text
  abbrev pub in_text : ℕ → Answer A → Answer A
  in_text text = map_refused (λ r. record { fault = r.fault; text = text; line = r.line; field = r.field; needed = r.needed })
