-- What the readers of the kinds of line promise, in the model's definitions. Assumes nothing.
use Rattle.model.specs.declared.Refusal.{Refusal}
use Rattle.std.specs.Prelude.{ℕ, ◌≡◌, Bool, true, false, drop, Result}
use Rattle.std.proofs.Math.Option.{some}
use Rattle.model.specs.declared.Kind.{Kind}
use Rattle.model.specs.declared.Kind.TheVariants as Kd
use Rattle.model.specs.declared.Record.{Record as LentRecord}
use Rattle.model.specs.declared.Record.TheVariants as Lent
use Rattle.model.specs.Bytes.{Bytes}
use Rattle.model.specs.Answer.{◌>>=◌}
use Rattle.model.specs.Limits.{u32_max, u64_max}
use Rattle.model.specs.Record.{
  Record,
  functions_found,
  functions_hit,
  branch_data,
  branches_found,
  branches_hit,
  lines_found,
  lines_hit,
}
use Rattle.model.specs.Line.{from_field, number_field, text_field, taken_field, last_before, with_end, read_function}
use Rattle.record_parse.specs.declared.lines.Total.{Total}
use Rattle.record_parse.specs.declared.lines.Total.TheVariants as Ct
use Rattle.record_parse.specs.Answers.{Answers}

-- the answer for every BRDA body whose field 4 is at the front of rest
pub record TakenRead (line block branch : ℕ) (rest : Bytes) (r : Result LentRecord Refusal) : Type 0 where
  pub is : (whole body : Bytes) → from_field 4 body ≡ some rest
      → Answers whole r (taken_field u64_max 4 body >>= λ taken. last_before 5 body (branch_data line block branch taken))

-- ---- FN

-- the answer for every FN body whose field 2, an end line, is at a position of the line
pub record EndRead (start : ℕ) (line : Bytes) (at : ℕ) (r : Result LentRecord Refusal) : Type 0 where
  pub is : (body : Bytes) → from_field 2 body ≡ some (drop at line)
      → Answers line r (number_field u32_max 2 body >>= λ end. text_field 3 body >>= λ name. with_end start end name)

-- the answer for every FN body whose field 2 is at a position of the line
pub record FunctionRead (start : ℕ) (line : Bytes) (at : ℕ) (r : Result LentRecord Refusal) : Type 0 where
  pub is : (body : Bytes) → from_field 2 body ≡ some (drop at line) → Answers line r (read_function start body (drop at line))

-- ---- the six kinds that hold one number

abbrev pub count_lent : Total → ℕ → LentRecord
count_lent Ct.FunctionsFound n = Lent.FunctionsFound n
count_lent Ct.FunctionsHit n = Lent.FunctionsHit n
count_lent Ct.BranchesFound n = Lent.BranchesFound n
count_lent Ct.BranchesHit n = Lent.BranchesHit n
count_lent Ct.LinesFound n = Lent.LinesFound n
count_lent Ct.LinesHit n = Lent.LinesHit n

abbrev pub count_made : Total → ℕ → Record
count_made Ct.FunctionsFound n = functions_found n
count_made Ct.FunctionsHit n = functions_hit n
count_made Ct.BranchesFound n = branches_found n
count_made Ct.BranchesHit n = branches_hit n
count_made Ct.LinesFound n = lines_found n
count_made Ct.LinesHit n = lines_hit n

abbrev pub count_kind : Total → Kind
count_kind Ct.FunctionsFound = Kd.FunctionsFound
count_kind Ct.FunctionsHit = Kd.FunctionsHit
count_kind Ct.BranchesFound = Kd.BranchesFound
count_kind Ct.BranchesHit = Kd.BranchesHit
count_kind Ct.LinesFound = Kd.LinesFound
count_kind Ct.LinesHit = Kd.LinesHit

-- a kind that holds one number, as one of the six
abbrev pub is_total : Kind → Bool
is_total Kd.TestName = false
is_total Kd.SourceFile = false
is_total Kd.FunctionName = false
is_total Kd.FunctionData = false
is_total Kd.FunctionsFound = true
is_total Kd.FunctionsHit = true
is_total Kd.BranchData = false
is_total Kd.BranchesFound = true
is_total Kd.BranchesHit = true
is_total Kd.LineData = false
is_total Kd.LinesFound = true
is_total Kd.LinesHit = true
is_total Kd.EndOfRecord = false

pub record TotalOf (kind : Kind) (r : Total) : Type 0 where
  pub is : is_total kind ≡ true → count_kind r ≡ kind
