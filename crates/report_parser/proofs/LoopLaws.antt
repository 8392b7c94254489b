-- The loop over a text's lines: the answer to what is left, by what the next line does. Assumes nothing.
use Prim.Native.Nat.{ℕ, suc, ◌+◌, ◌≤◌, ◌<◌}
use native.Mathlib.Omega.{arith}
use native.Mathlib.Numerals.{add-one}
use mathlib.Core.Path.{◌≡◌, refl, sym, ap, ◌∙◌}
use mathlib.Core.Bool.{Bool, true, false}
use mathlib.Core.List.{List, [], ◌∷◌}
use lib.Dec.{eqb}
use lib.ListN.{length, take, drop, length-drop}
use lib.Seq.{drop-drop}
use Rattle.std.specs.Prelude.{Result, Ok, Err}
use Rattle.model.specs.declared.Kind.{Kind}
use Rattle.model.specs.declared.Fault.{Fault}
use Rattle.model.specs.declared.Fault.TheVariants.{UnexpectedEof}
use Rattle.model.specs.declared.Refusal.{Refusal}
use Rattle.model.specs.declared.Record.{Record as LentRecord}
use Rattle.std.specs.Prelude.{if◌then◌else◌}
use Rattle.model.specs.Bytes.{Bytes, newline, before}
use Rattle.model.specs.Answer.{Answer, accepted, refused, ◌>>=◌, on_line}
use Rattle.model.specs.Record.{Record}
use Rattle.model.specs.Report.{Report}
use Rattle.model.specs.Line.{read_record}
use Rattle.model.specs.Parts.{record_in}
use Rattle.model.specs.Reading.{State as ModelState, outside, effect, step, lines, read_lines, read_text}
use Rattle.section.specs.declared.State.{State}
use Rattle.section.specs.Reading.{state_of, HoldsState, counted, seen_step, ValidStep, StepOf}
use Rattle.report_parser.specs.Reader.{left_at, Progress, at_line, fault_at}
use Rattle.report_parser.proofs.CutLaws.{lines_none, lines_cut}

take-before : (sep : ℕ) (xs : Bytes) → take (length (before sep xs)) xs ≡ before sep xs
unfolding before
take-before sep [] = refl
take-before sep (b ∷ bs) = go (eqb b sep) (take-before sep bs)
  where
    go : (t : Bool) → take (length (before sep bs)) bs ≡ before sep bs
        → take (length (if t then [] else b ∷ before sep bs)) (b ∷ bs) ≡ (if t then [] else b ∷ before sep bs)
    go true e = refl
    go false e = ap (λ (l : Bytes). b ∷ l) e

module _ (tag : Kind → Bytes) (text ws : List ℕ) (index limit at number : ℕ) (st : State) where
  abbrev here : ModelState
  here = state_of text ws index st

  abbrev answer : Answer Report
  answer = left_at tag text ws index limit at number st

  -- ---- past the last line

  module _ (end : length text ≤ at) where
    ended : read_lines tag limit number [] here ≡ answer
    ended = ap (λ (ls : List Bytes). read_lines tag limit number ls here) (lines_none text at end)

    pub done_inside : st.inside ≡ true → answer ≡ refused (fault_at number UnexpectedEof)
    unfolding read_lines
    done_inside i = sym ended ∙ rw i

    pub done_outside : st.inside ≡ false → answer ≡ accepted here.kept
    unfolding read_lines
    done_outside i = sym ended ∙ rw i

  -- ---- a line

  module _ (more : at < length text) (len : ℕ) (cut : len ≡ length (before newline (drop at text))) where
    abbrev line : Bytes
    line = take len (drop at text)

    rest-is : lines (drop at text) ≡ line ∷ lines (drop (at + len + 1) text)
    rest-is =
        lines_cut (drop at text) (rw (length-drop at text) (omega arith))
        ∙ ap (λ (n : ℕ). before newline (drop at text) ∷ lines (drop (n + 1) (drop at text))) (sym cut)
        ∙ ap (λ (l : Bytes). l ∷ lines (drop (len + 1) (drop at text))) (sym (take-before newline (drop at text)) ∙ ap (λ (n : ℕ). take n (drop at text)) (sym cut))
        ∙ ap (λ (l : Bytes). line ∷ lines l) dropped
      where
        sum : at + (len + 1) ≡ at + len + 1
        sum = omega arith

        dropped : drop (len + 1) (drop at text) ≡ drop (at + len + 1) text
        dropped = drop-drop (len + 1) at text ∙ ap (λ (n : ℕ). drop n text) sum

    -- the line's step, and what follows
    whole : (on_line number (step tag limit line here) >>= λ next. read_lines tag limit (suc number) (lines (drop (at + len + 1) text)) next)
        ≡ answer
    unfolding read_lines
    whole = ap (λ (ls : List Bytes). read_lines tag limit number ls here) (sym rest-is)

    -- a line that is refused ends the reading there
    pub line_refused : (q : Refusal) → read_record tag line ≡ refused q → answer ≡ refused (at_line number q)
    unfolding step
    line_refused q e = sym whole ∙ rw e

    module _ (lent : LentRecord) (made : Record) (is : record_in line lent ≡ accepted made) (read : record_in line lent ≡ read_record tag line) where
      -- a line that is read: the model's step is the counted effect of its record
      step_is : step tag limit line here ≡ counted limit (effect made here)
      unfolding step
      step_is = let e : read_record tag line ≡ accepted made = sym read ∙ is in rw e

      pub step-refused : (ws' : List ℕ) (r : Result State Fault) (fault : Fault) → StepOf text ws' index limit (counted limit (effect made here)) r → r ≡ Err fault
          → answer ≡ refused (fault_at number fault)
      step-refused ws' r fault o e =
          let s : step tag limit line here ≡ seen_step text ws' index (Err fault) = step_is ∙ sym o.is ∙ ap (seen_step text ws' index) e in
          sym whole ∙ rw s

      pub step-next : (ws' : List ℕ) (r : Result State Fault) (st' : State) → StepOf text ws' index limit (counted limit (effect made here)) r → r ≡ Ok st'
          → HoldsState text ws' index limit st' × (left_at tag text ws' index limit (at + len + 1) (number + 1) st' ≡ answer)
      step-next ws' r st' o e =
          let s : step tag limit line here ≡ seen_step text ws' index (Ok st') = step_is ∙ sym o.is ∙ ap (seen_step text ws' index) e in
          (next-valid r st' o.valid e, rw (add-one number) (follow s whole))
        where
          next-valid : (r : Result State Fault) (st' : State) → ValidStep text ws' index limit r → r ≡ Ok st' → HoldsState text ws' index limit st'
          next-valid r st' v e = rw e at v

          follow : step tag limit line here ≡ accepted (state_of text ws' index st')
              → (on_line number (step tag limit line here) >>= λ next. read_lines tag limit (suc number) (lines (drop (at + len + 1) text)) next)
              ≡ answer
              → read_lines tag limit (suc number) (lines (drop (at + len + 1) text)) (state_of text ws' index st') ≡ answer
          follow s w = rw s at w

-- before the first line
pub start_progress : (tag : Kind → Bytes) (text ws : List ℕ) (index limit from : ℕ) (st : State) → HoldsState text ws index limit st → state_of text ws index st ≡ outside [] []
    → Progress tag text ws index limit from from 1 st
unfolding read_text
start_progress tag text ws index limit from st v s =
    record { valid = v; left = ap (read_lines tag limit 1 (lines (drop from text))) s; few = omega arith }
