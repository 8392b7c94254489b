-- What a call returns is told by its number and values alone: no two answers have the same. Assumes nothing.
use Rattle.std.specs.Prelude.{Result, Ok, Err}
use Prim.Native.Nat.{ℕ}
use mathlib.Core.Path.{◌≡◌, refl, sym, ap, ◌∙◌}
use mathlib.Core.Bool.{Bool, cond}
use mathlib.Core.List.{List}
use lib.Dec.{eqb}
use lib.ListN.{length, get_or}
use Rattle.ordmap.specs.Result.{map_accepted}
use Rattle.ordmap.proofs.Results.{accepted_inj, refused_inj, not_accepted, not_refused}
use Rattle.model.specs.declared.Fault.{Fault}
use Rattle.model.specs.declared.Fault.TheVariants.{
  UnknownRecord,
  FieldNotFound,
  TooManyFields,
  EmptyNumber,
  InvalidDigit,
  NumberOverflow,
  UnexpectedRecord,
  UnexpectedEof,
  CallOverflow,
  TooManyEntries,
  UnmatchedFunctionLine,
  UnmatchedChecksum,
  CountOverflow,
  OutputTooShort,
  RangesFull,
  MalformedBundle,
  PartOutside,
  MalformedRanges,
  SignedNumber,
  RepeatedRevision,
  MalformedTags,
  EqualTags,
  EndBeforeStart,
  WidthOutside,
  SecondSourceFile,
  DifferentKeys,
  LeastAboveGreatest,
  MalformedLabs,
}
use Rattle.model.specs.declared.Refusal.{Refusal}
use Rattle.model.specs.declared.Range.{Range}
use Rattle.model.specs.declared.Record.{Record as LentRecord}
use Rattle.model.specs.Bytes.{Bytes}
use Rattle.model.specs.Answer.{Answer, accepted, refused, number_of, refusal_values, with_values}
use Rattle.model.specs.declared.Counted.{Counted}
use Rattle.model.specs.Output.{output_after}
use Rattle.model.specs.Ranges.{slice_after}
use Rattle.model.specs.Calls.{
  call_values,
  ValueCall,
  WriteCall,
  InsertCall,
  call_answer,
  length_answer,
}

-- ---- a refusal by its number and values

-- the fault that has a number
abbrev fault_of : ℕ → Fault
fault_of n =
    cond (eqb n 1) UnknownRecord (cond (eqb n 2) FieldNotFound (cond (eqb n 3) TooManyFields (cond (eqb n 4) EmptyNumber
    (cond (eqb n 5) InvalidDigit (cond (eqb n 6) NumberOverflow (cond (eqb n 7) UnexpectedRecord (cond (eqb n 8) UnexpectedEof
    (cond (eqb n 9) CallOverflow (cond (eqb n 10) TooManyEntries (cond (eqb n 11) UnmatchedFunctionLine (cond (eqb n 12) UnmatchedChecksum
    (cond (eqb n 13) CountOverflow (cond (eqb n 14) OutputTooShort (cond (eqb n 15) RangesFull (cond (eqb n 16) MalformedBundle
    (cond (eqb n 17) PartOutside (cond (eqb n 18) MalformedRanges (cond (eqb n 19) SignedNumber (cond (eqb n 20) RepeatedRevision
    (cond (eqb n 21) MalformedTags (cond (eqb n 22) EqualTags (cond (eqb n 23) EndBeforeStart (cond (eqb n 24) WidthOutside
    (cond (eqb n 25) SecondSourceFile (cond (eqb n 27) DifferentKeys (cond (eqb n 28) LeastAboveGreatest
    MalformedLabs))))))))))))))))))))))))))

fault_of_lem : (fault : Fault) → fault_of (number_of fault) ≡ fault
fault_of_lem UnknownRecord = refl
fault_of_lem FieldNotFound = refl
fault_of_lem TooManyFields = refl
fault_of_lem EmptyNumber = refl
fault_of_lem InvalidDigit = refl
fault_of_lem NumberOverflow = refl
fault_of_lem UnexpectedRecord = refl
fault_of_lem UnexpectedEof = refl
fault_of_lem CallOverflow = refl
fault_of_lem TooManyEntries = refl
fault_of_lem UnmatchedFunctionLine = refl
fault_of_lem UnmatchedChecksum = refl
fault_of_lem CountOverflow = refl
fault_of_lem OutputTooShort = refl
fault_of_lem RangesFull = refl
fault_of_lem MalformedBundle = refl
fault_of_lem PartOutside = refl
fault_of_lem MalformedRanges = refl
fault_of_lem SignedNumber = refl
fault_of_lem RepeatedRevision = refl
fault_of_lem MalformedTags = refl
fault_of_lem EqualTags = refl
fault_of_lem EndBeforeStart = refl
fault_of_lem WidthOutside = refl
fault_of_lem SecondSourceFile = refl
fault_of_lem DifferentKeys = refl
fault_of_lem LeastAboveGreatest = refl
fault_of_lem MalformedLabs = refl

number_inj : {f g : Fault} → number_of f ≡ number_of g → f ≡ g
number_inj {f} {g} e = sym (fault_of_lem f) ∙ ap fault_of e ∙ fault_of_lem g

-- the refusal that has these values
refusal_of : List ℕ → Refusal
refusal_of l = record { fault = fault_of (get_or l 0 0); text = get_or l 1 0; line = get_or l 2 0; field = get_or l 3 0; needed = get_or l 4 0 }

refusal_of_lem : (r : Refusal) → refusal_of (refusal_values r) ≡ r
unfolding refusal_of refusal_values
refusal_of_lem r = rw (fault_of_lem r.fault)

refusal_inj : {r s : Refusal} → refusal_values r ≡ refusal_values s → r ≡ s
refusal_inj {r} {s} e = sym (refusal_of_lem r) ∙ ap refusal_of e ∙ refusal_of_lem s

-- ---- the answer of a call is that of its values

pub call_exact : {A : Type 0} (answer : Answer A) (r : Result A Refusal) → ValueCall answer r → r ≡ call_answer answer
unfolding call_values call_answer
call_exact (accepted a) (Ok b) e = ap (λ x. Ok x) (accepted_inj e)
call_exact (accepted a) (Err q) e = absurd (not_accepted e)
call_exact (refused s) (Ok b) e = absurd (not_refused e)
call_exact (refused s) (Err q) e = ap (λ (x : Refusal). Err x) (refusal_inj (refused_inj e))

pub length_exact : {A : Type 0} (answer : Answer (List A)) (r : Result ℕ Refusal) → call_values r ≡ with_values (map_accepted length answer) → r ≡ length_answer answer
unfolding call_values length_answer
length_exact (accepted l) (Ok n) e = ap (λ (x : ℕ). Ok x) (accepted_inj e)
length_exact (accepted l) (Err q) e = absurd (not_accepted e)
length_exact (refused s) (Ok n) e = absurd (not_refused e)
length_exact (refused s) (Err q) e = ap (λ (x : Refusal). Err x) (refusal_inj (refused_inj e))

-- ---- and its values are those of its answer

pub value_called : {A : Type 0} (answer : Answer A) (r : Result A Refusal) → r ≡ call_answer answer → ValueCall answer r
unfolding call_values call_answer
value_called (accepted a) r e = rw e
value_called (refused s) r e = rw e

pub write_called : (answer : Answer Bytes) (out out' : Bytes) (r : Result ℕ Refusal) → r ≡ length_answer answer → out' ≡ output_after answer out → WriteCall answer out out' r
unfolding call_values length_answer
write_called (accepted bytes) out out' r e h = record { returns = rw e; leaves = h }
write_called (refused s) out out' r e h = record { returns = rw e; leaves = h }

pub insert_called : (answer : Answer (List Range)) (slice slice' : List Range) (r : Result ℕ Refusal) → r ≡ length_answer answer → slice' ≡ slice_after answer slice
    → InsertCall answer slice slice' r
unfolding call_values length_answer
insert_called (accepted ranges) slice slice' r e h = record { returns = rw e; leaves = h }
insert_called (refused s) slice slice' r e h = record { returns = rw e; leaves = h }
