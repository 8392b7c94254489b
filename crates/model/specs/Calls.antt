-- What the public calls return and leave in the lent buffers: "When an answer is an enum, a definition specifies this paper's number
-- and values for each of its cases. The promises use that definition." Assumes nothing.
use Rattle.model.specs.declared.Refusal.{Refusal}
use Rattle.std.specs.Prelude.{ℕ, ◌≡◌, List, length, Result as CallResult, Ok, Err}
use Rattle.model.specs.declared.Range.{Range}
use Rattle.model.specs.Bytes.{Bytes}
use Rattle.ordmap.specs.Result.{Result, map_accepted}
use Rattle.model.specs.Answer.{Answer, accepted, refused, refusal_values, with_values}
use Rattle.model.specs.Output.{output_after}
use Rattle.model.specs.Ranges.{slice_after}

-- ---- each case of an answer: a value, or a refusal's number and values

unfoldable pub call_values : {A : Type 0} → CallResult A Refusal → Result (List ℕ) A
call_values (Ok a) = accepted a
call_values (Err r) = refused (refusal_values r)

-- ---- a call that returns r, as an answer says

-- it returns the value: a record that was read, a number with its digits, whether a line is held
abbrev pub ValueCall : {A : Type 0} → Answer A → CallResult A Refusal → Type 0
ValueCall answer r = call_values r ≡ with_values answer

-- it returns the number of bytes written: it was lent `out` and leaves out'
pub record WriteCall (answer : Answer Bytes) (out out' : Bytes) (r : CallResult ℕ Refusal) : Type 0 where
  pub returns : call_values r ≡ with_values (map_accepted length answer)
  pub leaves : out' ≡ output_after answer out

-- it returns the number of pairs used: it was lent `slice` and leaves slice'
pub record InsertCall (answer : Answer (List Range)) (slice slice' : List Range) (r : CallResult ℕ Refusal) : Type 0 where
  pub returns : call_values r ≡ with_values (map_accepted length answer)
  pub leaves : slice' ≡ slice_after answer slice

-- ---- the answer that a call returns

unfoldable pub call_answer : {A : Type 0} → Answer A → CallResult A Refusal
call_answer (accepted a) = Ok a
call_answer (refused r) = Err r

-- of a call that returns a length
unfoldable pub length_answer : {A : Type 0} → Answer (List A) → CallResult ℕ Refusal
length_answer (accepted l) = Ok (length l)
length_answer (refused r) = Err r
