-- What the C calling form hands back: a number, which is 0 or a refusal's, and eight words. Assumes nothing.
use Rattle.model_bounds.specs.declared.Bounds.{Bounds}
use Rattle.model.specs.declared.Counted.{Counted}
use Rattle.std.specs.Prelude.{ℕ, Bool, true, false, List, [], ◌∷◌, length, Option, Result, Some, None, Ok, Err}
use Rattle.model.specs.declared.Refusal.{Refusal}
use Rattle.model.specs.declared.Part.{Part}
use Rattle.model.specs.declared.Record.{Record}
use Rattle.model.specs.declared.Record.TheVariants.{
  TestName,
  SourceFile,
  FunctionName,
  FunctionData,
  FunctionsFound,
  FunctionsHit,
  BranchData,
  BranchesFound,
  BranchesHit,
  LineData,
  LinesFound,
  LinesHit,
  EndOfRecord,
}
use Rattle.model.specs.Answer.{number_of}
use Rattle.model.specs.Output.{written, output_after}

-- kind, four numbers, whether an end line, taken count or checksum is given, and the text's start and length
abbrev pub eight : ℕ → ℕ → ℕ → ℕ → ℕ → ℕ → ℕ → ℕ → List ℕ
eight a b c d e f g h = a ∷ b ∷ c ∷ d ∷ e ∷ f ∷ g ∷ h ∷ []

abbrev pub function_words : ℕ → Option ℕ → Part → List ℕ
function_words start (Some line) p = eight 3 start line 0 0 1 p.start p.len
function_words start None p = eight 3 start 0 0 0 0 p.start p.len

abbrev pub branch_words : ℕ → ℕ → ℕ → Option ℕ → List ℕ
branch_words line block branch (Some count) = eight 7 line block branch count 1 0 0
branch_words line block branch None = eight 7 line block branch 0 0 0 0

abbrev pub line_data_words : ℕ → ℕ → Option Part → List ℕ
line_data_words line count (Some p) = eight 10 line count 0 0 1 p.start p.len
line_data_words line count None = eight 10 line count 0 0 0 0 0

-- kinds are numbered from 1 in the order of `RecordKind`
abbrev pub record_words : Record → List ℕ
record_words (TestName p) = eight 1 0 0 0 0 0 p.start p.len
record_words (SourceFile p) = eight 2 0 0 0 0 0 p.start p.len
record_words (FunctionName start end p) = function_words start end p
record_words (FunctionData count p) = eight 4 count 0 0 0 0 p.start p.len
record_words (FunctionsFound found) = eight 5 found 0 0 0 0 0 0
record_words (FunctionsHit hit) = eight 6 hit 0 0 0 0 0 0
record_words (BranchData line block branch taken) = branch_words line block branch taken
record_words (BranchesFound found) = eight 8 found 0 0 0 0 0 0
record_words (BranchesHit hit) = eight 9 hit 0 0 0 0 0 0
record_words (LineData line count checksum) = line_data_words line count checksum
record_words (LinesFound found) = eight 11 found 0 0 0 0 0 0
record_words (LinesHit hit) = eight 12 hit 0 0 0 0 0 0
record_words EndOfRecord = eight 13 0 0 0 0 0 0 0

-- a refusal's values, beside its number
abbrev pub refusal_words : Refusal → List ℕ
refusal_words r = eight r.text r.line r.field r.needed 0 0 0 0

-- the value, and how many digits were read
abbrev pub counted_words : Counted → List ℕ
counted_words c = eight c.value c.digits 0 0 0 0 0 0

-- the number of bytes written, or of pairs used
abbrev pub length_words : ℕ → List ℕ
length_words n = eight n 0 0 0 0 0 0 0

-- 1 for yes, 0 for no
abbrev pub held_words : Bool → List ℕ
held_words true = eight 1 0 0 0 0 0 0 0
held_words false = eight 0 0 0 0 0 0 0 0

-- hit lines, hit functions and hit branches, each the least and the greatest number
abbrev pub bounds_words : Bounds → List ℕ
bounds_words b = eight b.least.lines b.greatest.lines b.least.functions b.greatest.functions b.least.branches b.greatest.branches 0 0

-- the words of a value, or those of a refusal
abbrev pub answer_words : {A : Type 0} → (A → List ℕ) → Result A Refusal → List ℕ
answer_words words (Ok a) = words a
answer_words words (Err r) = refusal_words r

-- 0, or a refusal's number
abbrev pub answer_number : {A : Type 0} → Result A Refusal → ℕ
answer_number (Ok a) = 0
answer_number (Err r) = number_of r.fault

-- the slice for the words, which are put into it where it holds them all
abbrev pub with_prefix : List ℕ → List ℕ → List ℕ
with_prefix words slice = output_after (written (length slice) words) slice
