-- The calls that read texts. Each is a function of what the caller lends: bytes, W words of scratch and the output's length.
-- The bytes written are the answer, and the call answers their number. Assumes nothing.
use Rattle.std.specs.Prelude.{ℕ, ◌/◌, min, List, [], ◌∷◌, ◌++◌, leb, length, if◌then◌else◌}
use Rattle.model.specs.declared.Fault.TheVariants.{MalformedBundle}
use Rattle.model.specs.declared.Kind.{Kind}
use Rattle.model.specs.declared.Mode.{Mode}
use Rattle.model.specs.declared.Mode.TheVariants.{Checked}
use Rattle.model.specs.Bytes.{Bytes, ascii, newline}
use Rattle.model.specs.Limits.{words_per_entry, max_entries, program_input, program_words, program_output}
use Rattle.model.specs.Answer.{Answer, accepted, refused, ◌>>=◌, refuse, in_text, number_of}
use Rattle.model.specs.Number.{decimal}
use Rattle.model.specs.Tags.{default_tag}
use Rattle.model.specs.Report.{Report, merge, within}
use Rattle.model.specs.Reading.{read_text}
use Rattle.model.specs.Output.{written}
use Rattle.model.specs.Printing.{print_report}
use Rattle.model.specs.Bundle.{Text, well_formed, texts}

-- E: the smaller of W/32 rounded down and 65,535
abbrev pub entry_limit : ℕ → ℕ
entry_limit words = min (words / words_per_entry) max_entries

module _ (tag : Kind → Bytes) where
  -- read one text: its report printed to the output
  unfoldable pub read_and_print : Bytes → ℕ → ℕ → Answer Bytes
  read_and_print text words room = do
    report ← read_text tag (entry_limit words) text
    written room (print_report tag report)

  -- one text read and merged into a report; then E is tested on what is joined so far
  unfoldable pub gather_text : Mode → ℕ → Bytes → Report → Answer Report
  gather_text mode limit text into = do
    read ← read_text tag limit text
    joined ← merge mode into read
    within limit (length joined) joined

  -- each text in turn; a refusal names the text
  unfoldable pub gather_texts : Mode → ℕ → List Text → Report → Answer Report
  gather_texts mode limit [] into = accepted into
  gather_texts mode limit (text ∷ rest) into = do
    next ← in_text text.index (gather_text mode limit text.bytes into)
    gather_texts mode limit rest next

  -- the texts of a bundle from an empty report on
  unfoldable pub gather_bundle : Mode → Bytes → ℕ → Answer Report
  gather_bundle mode bundle words =
      if well_formed bundle then gather_texts mode (entry_limit words) (texts bundle) [] else refuse MalformedBundle

  -- gather: the joined report printed
  unfoldable pub gather : Mode → Bytes → ℕ → ℕ → Answer Bytes
  gather mode bundle words room = gather_bundle mode bundle words >>= λ report. written room (print_report tag report)

  -- the same of any number of texts
  abbrev pub gather_many : Mode → List Text → ℕ → ℕ → Answer Bytes
  gather_many mode texts words room = gather_texts mode (entry_limit words) texts [] >>= λ joined. written room (print_report tag joined)

-- ---- programs

-- what a program prints for an answer
unfoldable pub printed_answer : Answer Bytes → Bytes
printed_answer (accepted bytes) = bytes
printed_answer (refused r) =
    ascii "refused " ++ decimal (number_of r.fault) ++ ascii " " ++ decimal r.text ++ ascii " " ++ decimal r.line ++ ascii " " ++ decimal r.field ++ newline ∷ []

-- what a program prints for its standard input, where it hands a bundle to a call
unfoldable pub program_of : (Bytes → ℕ → ℕ → Answer Bytes) → Bytes → Bytes
program_of call input =
    printed_answer (if leb (length input) program_input then call input program_words program_output else refuse MalformedBundle)

-- the program `gather`
unfoldable pub gather_program : Bytes → Bytes
gather_program input = program_of (gather default_tag Checked) input
