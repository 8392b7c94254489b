-- What the exported calls promise follows from what the crates below promise. Assumes nothing.
use Prim.Native.Nat.{ℕ}
use mathlib.Core.Path.{◌≡◌, refl, ap, ◌∙◌}
use mathlib.Core.List.{List}
use lib.ListN.{length}
use Rattle.std.specs.Prelude.{Result, Ok, Err}
use Rattle.model.specs.declared.Record.{Record as LentRecord}
use Rattle.model.specs.declared.Refusal.{Refusal}
use Rattle.model.specs.declared.Kind.{Kind}
use Rattle.model.specs.Bytes.{Bytes}
use Rattle.model.specs.Answer.{Answer, refused}
use Rattle.model.specs.Output.{output_after}
use Rattle.model.specs.Parts.{lent_line, print_line}
use Rattle.model.proofs.LentLaws.{line_refused}
use Rattle.model.proofs.LentLaws as LentLaws
use Rattle.model.specs.declared.Range.{Range}
use Rattle.model.specs.Calls.{ValueCall, WriteCall, InsertCall, call_answer, length_answer}
use Rattle.model.proofs.CallLaws.{call_exact, length_exact, write_called}
use Rattle.lcov_c_words.specs.Words.{length_words, answer_words, answer_number, with_prefix}
use Rattle.lcov_c.specs.Exports.{Stored, printed_line, AnswerStored, RangeInserted}

-- ---- an answer handed back

module _ {A : Type 0} {words : A → List ℕ} {answer : Answer A} (got : Result A Refusal) {slice slice' : List ℕ} {number : ℕ}
    (n : number ≡ answer_number got) (w : slice' ≡ with_prefix (answer_words words got) slice) where
  pub stored_as : got ≡ call_answer answer → Stored words answer slice slice' number
  stored_as is = record { numbered = n ∙ ap answer_number is; stored = rw is at w }

  pub stored : ValueCall answer got → Stored words answer slice slice' number
  stored call = stored_as (call_exact answer got call)

module _ {got : Result ℕ Refusal} {slice slice' : List ℕ} {number : ℕ} (n : number ≡ answer_number got)
    (w : slice' ≡ with_prefix (answer_words length_words got) slice) where
  pub told : {answer : Answer Bytes} {out out' : Bytes} → WriteCall answer out out' got → AnswerStored answer slice slice' out out' number
  told {answer} call =
      let is = length_exact answer got call.returns in
      record { numbered = n ∙ ap answer_number is; words = rw is at w; output = call.leaves }

  pub inserted : {answer : Answer (List Range)} {ranges ranges' : List Range} → InsertCall answer ranges ranges' got
      → RangeInserted answer slice slice' ranges ranges' number
  inserted {answer} call =
      let is = length_exact answer got call.returns in
      record { numbered = n ∙ ap answer_number is; words = rw is at w; kept = call.leaves }

-- ---- a line read and printed

module _ (tag : Kind → Bytes) (line : Bytes) (got : Result LentRecord Refusal) (call : ValueCall (lent_line tag line) got) where
  is : got ≡ call_answer (lent_line tag line)
  is = call_exact (lent_line tag line) got call

  -- a line that is refused is not printed
  pub refused-line : (r : Refusal) → got ≡ Err r → (out : Bytes) → WriteCall (printed_line tag line (length out)) out out (Err r)
  unfolding printed_line length_answer output_after
  refused-line r e out =
      let no_line : printed_line tag line (length out) ≡ refused r = rw (line_refused tag line got is r e) in
      rw no_line (write_called (refused r) out out (Err r) refl refl)

  -- one that is read is printed as its record is
  pub printed-line : (lent : LentRecord) → got ≡ Ok lent → (out out' : Bytes) (wrote : Result ℕ Refusal) → WriteCall (print_line tag line lent (length out)) out out' wrote
      → WriteCall (printed_line tag line (length out)) out out' wrote
  unfolding print_line printed_line
  printed-line lent e out out' wrote print = rw (LentLaws.line_read tag line got is lent e) at print
