-- A text read line by line: what holds between two lines, and the answer read back from the words. Assumes nothing.
use Rattle.std.specs.Prelude.{ℕ, ◌+◌, ◌≤◌, ◌<◌, ◌≡◌, false, cond, List, length, drop, Result, Ok, Err}
use Rattle.model.specs.declared.Kind.{Kind}
use Rattle.model.specs.declared.Fault.{Fault}
use Rattle.model.specs.declared.Fault.TheVariants.{UnexpectedEof}
use Rattle.model.specs.declared.Refusal.{Refusal}
use Rattle.model.specs.Bytes.{Bytes}
use Rattle.model.specs.Answer.{Answer, accepted, refused}
use Rattle.model.specs.Report.{Report}
use Rattle.model.specs.Reading.{lines, read_lines, read_text}
use Rattle.section.specs.declared.State.{State}
use Rattle.table_section.specs.Sections.{entries_at, Sections}
use Rattle.section.specs.Reading.{capacity, state_of, HoldsState, AllInMain}
use Rattle.report_parser.specs.declared.LineRead.{LineRead}
use Rattle.report_parser.specs.declared.TextRead.{TextRead as TextSizes}

-- the answer to what is left from `at` on, its next line having this number, read from the state that the words hold
abbrev pub left_at : (tag : Kind → Bytes) → Bytes → List ℕ → ℕ → ℕ → ℕ → ℕ → State → Answer Report
left_at tag text ws index limit at number st = read_lines tag limit number (lines (drop at text)) (state_of text ws index st)

-- the words hold a state, and what is left gives the answer of the whole, which starts at `from`
pub record Progress (tag : Kind → Bytes) (text ws : List ℕ) (index limit from at number : ℕ) (st : State) : Type 0 where
  pub valid : HoldsState text ws index limit st
  pub left : left_at tag text ws index limit at number st ≡ read_text tag limit (drop from text)
  pub few : number ≤ at + 1

-- a refusal at a line
abbrev pub at_line : ℕ → Refusal → Refusal
at_line line r = record { fault = r.fault; text = r.text; line = line; field = r.field; needed = r.needed }

abbrev pub fault_at : ℕ → Fault → Refusal
fault_at line fault = record { fault = fault; text = 0; line = line; field = 0; needed = 0 }

-- at the text's end no section may be open
abbrev pub ended_text : State → ℕ → ℕ → Result TextSizes Refusal
ended_text st kept number = cond st.inside (Err (fault_at number UnexpectedEof)) (Ok (record { kept = kept; used = st.used }))

-- where none is open, all kept entries are in main
pub record TextFinished (text ws ws' : List ℕ) (index : ℕ) (st : State) (number : ℕ) (r : Result TextSizes Refusal) : Type 0 where
  pub kept : ℕ
  pub is : r ≡ ended_text st kept number
  pub in_main : st.inside ≡ false → AllInMain text ws ws' index st kept

-- after a line: the next one starts at `next`, and what is left gives the same answer; or that is the refusal
abbrev pub AfterLine : (tag : Kind → Bytes) → Bytes → List ℕ → ℕ → ℕ → ℕ → ℕ → Answer Report → Result LineRead Refusal → Type 0
AfterLine tag text ws index limit at number answer (Ok l) =
    HoldsState text ws index limit l.state × (left_at tag text ws index limit l.next (number + 1) l.state ≡ answer) × (at < l.next) × (l.next ≤ length text + 1)
AfterLine tag text ws index limit at number answer (Err r) = answer ≡ refused r

-- the words ws and the state before the line, the words ws' after it
pub record LineDone (tag : Kind → Bytes) (text ws ws' : List ℕ) (index limit at number : ℕ) (st : State) (r : Result LineRead Refusal) : Type 0 where
  pub after : AfterLine tag text ws' index limit at number (left_at tag text ws index limit at number st) r

-- the report that the first entries in the index's order are
abbrev pub seen_text : Bytes → List ℕ → ℕ → Result TextSizes Refusal → Answer Report
seen_text text ws index (Ok t) = accepted (entries_at text ws index t.kept)
seen_text text ws index (Err r) = refused r

-- its entries are within the limit, and its rows are among those that there are
abbrev pub HeldText : Bytes → List ℕ → ℕ → ℕ → Result TextSizes Refusal → Type 0
HeldText text ws index limit (Ok t) = Sections text ws index t.used t.kept × (t.used ≤ capacity limit) × (t.kept ≤ limit)
HeldText text ws index limit (Err r) = Unit {0}

-- the answer is the model's for the text that starts at `from`
pub record TextRead (tag : Kind → Bytes) (text ws : List ℕ) (index limit from : ℕ) (r : Result TextSizes Refusal) : Type 0 where
  pub is : seen_text text ws index r ≡ read_text tag limit (drop from text)
  pub held : HeldText text ws index limit r
