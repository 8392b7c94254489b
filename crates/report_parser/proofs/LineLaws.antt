-- One line of the loop, as the code meets it: the line is a part of the text that the code cut. Assumes nothing.
use Rattle.std.specs.Prelude.{Result, Ok, Err}
use Prim.Native.Nat.{ℕ, ◌+◌, ◌-◌, ◌≤◌, ◌<◌}
use native.Mathlib.Omega.{arith}
use mathlib.Core.Path.{◌≡◌, sym, ap, ◌∙◌}
use mathlib.Core.List.{List}
use lib.ListN.{length, take, drop, length-drop}
use lib.Seq.{take_all}
use Rattle.model.specs.declared.Kind.{Kind}
use Rattle.model.specs.declared.Record.{Record as LentRecord}
use Rattle.model.specs.declared.Refusal.{Refusal}
use Rattle.model.specs.declared.Fault.{Fault}
use Rattle.model.specs.Bytes.{Bytes, newline, before}
use Rattle.model.specs.Line.{read_record}
use Rattle.model.specs.Parts.{record_in, lent_record}
use Rattle.model.specs.Calls.{ValueCall, call_answer}
use Rattle.model.proofs.CallLaws.{call_exact}
use Rattle.model.proofs.LentLaws.{record_read, record_refused}
use Rattle.section.specs.declared.State.{State}
use Rattle.report_parser.specs.Effect.{RecordAt, Steps}
use Rattle.report_parser.specs.Reader.{at_line, fault_at, LineDone}
use Rattle.report_parser.proofs.LoopLaws.{line_refused, step-refused, step-next}

-- the rest of the text, as the code lends it
abbrev rest_of : List ℕ → ℕ → List ℕ
rest_of text at = take (length text - at) (drop at text)

rest_all : (text : List ℕ) (at : ℕ) → rest_of text at ≡ drop at text
rest_all text at = take_all (length text - at) (drop at text) (rw (length-drop at text) (omega arith))

module _ (text : List ℕ) (at len : ℕ) (cut : len ≡ length (before newline (rest_of text at))) where
  cut_is : len ≡ length (before newline (drop at text))
  cut_is = cut ∙ ap (λ (l : List ℕ). length (before newline l)) (rest_all text at)

-- the line, as the code lends it
abbrev line_of : List ℕ → ℕ → ℕ → List ℕ
line_of text at len = take (at + len - at) (drop at text)

line_is : (text : List ℕ) (at len : ℕ) → line_of text at len ≡ take len (drop at text)
line_is text at len = let e : at + len - at ≡ len = omega arith in rw e

module _ (text : List ℕ) (at len : ℕ) where
  -- it ends within the text
  pub line-end : at < length text → len ≤ length (rest_of text at) → at + len ≤ length text
  line-end h e = omega (arith, ap length (rest_all text at), length-drop at text)

-- the answer about the line as the code lends it is that about the line
as_lent : (tag : Kind → Bytes) (text : List ℕ) (at len : ℕ) (got : Result LentRecord Refusal) → ValueCall (lent_record tag (line_of text at len)) got
    → got ≡ call_answer (lent_record tag (take len (drop at text)))
as_lent tag text at len got is = call_exact (lent_record tag (take len (drop at text))) got (rw (line_is text at len) at is)

pub record_at : (tag : Kind → Bytes) (text : List ℕ) (at len : ℕ) (got : Result LentRecord Refusal) (lent : LentRecord) → got ≡ Ok lent → ValueCall (lent_record tag (line_of text at len)) got
    → RecordAt text at len lent
record_at tag text at len got lent e is =
    let (made, h, p) = record_read tag (take len (drop at text)) got (as_lent tag text at len got is) lent e in
    record { made = made; is = h }

module _ (tag : Kind → Bytes) (text : List ℕ) (at len : ℕ) (got : Result LentRecord Refusal) (is : ValueCall (lent_record tag (line_of text at len)) got) where
  read_is : got ≡ call_answer (lent_record tag (take len (drop at text)))
  read_is = as_lent tag text at len got is

  module _ (ws : List ℕ) (index limit number : ℕ) (st : State) (more : at < length text)
      (cut : len ≡ length (before newline (rest_of text at))) (short : len ≤ length (rest_of text at)) where
    pub done_refused : (q : Refusal) {r : Refusal} → got ≡ Err q → r ≡ at_line number q → LineDone tag text ws ws index limit at number st (Err r)
    done_refused q e h =
        let a = record_refused tag (take len (drop at text)) got read_is q e in
        let t = line_refused tag text ws index limit at number st more len (cut_is text at len cut) q a in
        record { after = rw h t }

    module _ (lent : LentRecord) (e : got ≡ Ok lent) (ws' : List ℕ) (done : Result State Fault) (steps : Steps text ws ws' index limit st lent at len done) where
      lent_is : record_in (take len (drop at text)) lent ≡ read_record tag (take len (drop at text))
      lent_is = let (made, h, p) = record_read tag (take len (drop at text)) got read_is lent e in h ∙ sym p

      pub done_step : (fault : Fault) {r : Refusal} → done ≡ Err fault → r ≡ fault_at number fault → LineDone tag text ws ws' index limit at number st (Err r)
      done_step fault d h =
          let ρ = record_at tag text at len got lent e is in
          let t = step-refused tag text ws index limit at number st more len (cut_is text at len cut) lent ρ.made ρ.is lent_is ws' done fault (steps.by ρ.made ρ.is) d in
          record { after = rw h t }

      pub done_next : (after : State) → done ≡ Ok after → LineDone tag text ws ws' index limit at number st (Ok (record { state = after; next = at + len + 1 }))
      done_next after d =
          let r = record_at tag text at len got lent e is in
          let (valid, left) = step-next tag text ws index limit at number st more len (cut_is text at len cut) lent r.made r.is lent_is ws' done after (steps.by r.made r.is) d in
          record { after = (valid, left, omega arith, omega (arith, line-end text at len more short)) }
