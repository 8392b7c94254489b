-- What the exported calls answer and leave in the lent slices, in the model's definitions. Assumes nothing.
use Prim.Native.Nat.{ℕ, Ordering}
use Rattle.std.specs.Prelude.{◌≡◌, List, [], ◌∷◌, ◌++◌}
use Rattle.model.specs.declared.Kind.{Kind}
use Rattle.model.specs.Bytes.{Bytes, newline}
use Rattle.model.specs.Answer.{Answer, ◌>>=◌}
use Rattle.model.specs.Line.{read_line, print_record}
use Rattle.model.specs.Output.{written, output_after}
use Rattle.model.specs.declared.Range.{Range}
use Rattle.model.specs.Ranges.{slice_after}
use Rattle.model.specs.Calls.{call_answer, length_answer}
use Rattle.lcov_c_words.specs.Words.{eight, length_words, answer_words, answer_number, with_prefix}

-- an answer handed back: its number, and in the lent slice the words of its value, in which a text is its start and length in the line, or of
-- its refusal. Nothing else is written
pub record Stored {A : Type 0} (words : A → List ℕ) (answer : Answer A) (slice slice' : List ℕ) (number : ℕ) : Type 0 where
  pub numbered : number ≡ answer_number (call_answer answer)
  pub stored : slice' ≡ with_prefix (answer_words words (call_answer answer)) slice

-- a line read, and its record printed with byte 10 after it
unfoldable pub printed_line : (tag : Kind → Bytes) → Bytes → ℕ → Answer Bytes
printed_line tag line room = read_line tag line >>= λ made. written room (print_record tag made ++ newline ∷ [])

-- what a call that writes hands back for an answer: its number, the words in the lent slice, and the output
pub record AnswerStored (answer : Answer Bytes) (slice slice' : List ℕ) (out out' : Bytes) (number : ℕ) : Type 0 where
  pub numbered : number ≡ answer_number (length_answer answer)
  pub words : slice' ≡ with_prefix (answer_words length_words (length_answer answer)) slice
  pub output : out' ≡ output_after answer out

-- a range put among others: the number, the words, and what the lent ranges then are
pub record RangeInserted (answer : Answer (List Range)) (slice slice' : List ℕ) (ranges ranges' : List Range) (number : ℕ) : Type 0 where
  pub numbered : number ≡ answer_number (length_answer answer)
  pub words : slice' ≡ with_prefix (answer_words length_words (length_answer answer)) slice
  pub kept : ranges' ≡ slice_after answer ranges

abbrev pub range_words : Range → List ℕ
range_words r = eight r.start r.end 0 0 0 0 0 0

-- 0 for less, 1 for equal, 2 for greater
abbrev pub order_number : Ordering → ℕ
order_number Ordering.lt = 0
order_number Ordering.eq = 1
order_number Ordering.gt = 2
