-- A quota of entries for each lab (request N12). Clause by clause:
--   "Each lab's texts are first gathered by themselves. A lab whose gather is refused, or holds more entries than its quota, is left out and marked so
--   with its number of entries or its refusal, which is never 14 and whose text index counts that lab's texts only; the others are marked as let in":
--   `mark_of`, and `let_in`, `over_quota`, `refused_lab` and `never_14`.
--   "and gathered together as usual": `joint_accepts`, `joint_writes`, `joint_reads_back` and `as_gathered`.
--   "A refusal of that joint gather counts text indexes over the whole bundle and still carries every lab's mark": `joint_refused` and `answers`.
--   "A lab's mark depends on the bytes and order of its own texts, its quota and E, and stays the same under any change to another lab's texts":
--   `own_mark` and `others_changed`.
--   "sums and acceptance then range over the labs that were let in, each text taking its lab number along in any order": `any_order` and `same_entries`.
-- Assumes nothing.
use Rattle.std.specs.Prelude.{ℕ, suc, ◌-◌, ◌≤◌, ◌<◌, ◌≡◌, ◌↔◌, Bool, true, false, ◌&&◌, List, [], ◌∷◌, map, leb, eqb, length, get_or, if◌then◌else◌}
use Rattle.std.proofs.Math.Option.{Option, none, some}
use Rattle.ordmap.specs.Result.{value, map_accepted, IsAccepted}
use Rattle.ordmap.specs.Gathering.{flat}
use Rattle.model.specs.declared.Fault.TheVariants.{MalformedBundle, MalformedLabs}
use Rattle.model.specs.declared.Kind.{Kind}
use Rattle.model.specs.declared.Mode.TheVariants.{Checked}
use Rattle.model.specs.declared.Refusal.{Refusal}
use Rattle.model.specs.Lists.{all, from}
use Rattle.model.specs.Bytes.{Bytes}
use Rattle.model.specs.Limits.{max_labs}
use Rattle.model.specs.Answer.{Answer, accepted, refused, refuse, ◌>>=◌, number_of}
use Rattle.model.specs.Report.{Report}
use Rattle.model.specs.Reading.{read_text}
use Rattle.model.specs.Output.{written, output_after}
use Rattle.model.specs.Printing.{print_report}
use Rattle.model.specs.Bundle.{Text, contents, well_formed, text_count, text_at}
use Rattle.model.specs.Gather.{entry_limit, read_and_print, gather_texts, gather_many, gather}
use Rattle.model.specs.Groups.{texts_of}
use Rattle.model.specs.Joined.{joined_report}
use Rattle.model.specs.Demand.{Gatherable}
use Rattle.text_choice.specs.declared.Mark.{Mark}
use Rattle.text_choice.specs.declared.Mark.TheVariants.{LetIn, OverQuota, RefusedLab}
use Rattle.text_choice.specs.Choice.{choose_texts, labelled, SameLabelled, AcceptableTexts, RefusedText, SpelledOnce}

-- ---- labs

abbrev pub is_lab : ℕ → Bool
is_lab lab = leb 1 lab && leb lab max_labs

-- a lab number for each text, each 1 to 8, and eight quotas
unfoldable pub are_labs : Bytes → List ℕ → List ℕ → Bool
are_labs bundle labs quotas = eqb (length labs) (text_count bundle) && all is_lab labs && eqb (length quotas) max_labs

abbrev pub lab_at : List ℕ → ℕ → ℕ
lab_at labs i = get_or labs i 0

abbrev pub quota_of : List ℕ → ℕ → ℕ
quota_of quotas lab = get_or quotas (lab - 1) 0

-- what the texts of a lab hold, in the order of the bundle
unfoldable pub lab_contents : Bytes → List ℕ → ℕ → List Bytes
lab_contents bundle labs lab = contents (choose_texts (λ i. eqb lab (lab_at labs i)) (text_at bundle) 0 (text_count bundle))

-- what all texts hold, each with its lab number
abbrev pub lab_texts : Bytes → List ℕ → List (ℕ × Bytes)
lab_texts bundle labs = labelled (lab_at labs) (text_at bundle) (text_count bundle)

-- texts counted from i on
unfoldable pub numbered : ℕ → List Bytes → List Text
numbered i [] = []
numbered i (bytes ∷ rest) = record { index = i; bytes = bytes } ∷ numbered (suc i) rest

-- ---- marks

-- by a quota, and the number of entries of a gather
abbrev pub marked : ℕ → Answer ℕ → Mark
marked quota (accepted n) = if leb n quota then LetIn n else OverQuota n
marked quota (refused r) = RefusedLab r

abbrev pub is_let_in : Mark → Bool
is_let_in (LetIn n) = true
is_let_in (OverQuota n) = false
is_let_in (RefusedLab r) = false

-- its words for a caller: the state, then the entries, or the refusal
unfoldable pub mark_words : Mark → List ℕ
mark_words (LetIn n) = 0 ∷ n ∷ 0 ∷ 0 ∷ 0 ∷ []
mark_words (OverQuota n) = 1 ∷ n ∷ 0 ∷ 0 ∷ 0 ∷ []
mark_words (RefusedLab r) = 2 ∷ number_of r.fault ∷ r.text ∷ r.line ∷ r.field ∷ []

-- the number of entries, where there is one
abbrev pub entries_of : Mark → Option ℕ
entries_of (LetIn n) = some n
entries_of (OverQuota n) = some n
entries_of (RefusedLab r) = none

-- ---- the call

-- the mark of each lab, and the answer of the joint gather
pub record LabsAnswer : Type 0 where
  pub marks : List Mark
  pub joint : Answer Bytes

-- what it answers, and what it leaves in a slice for the marks: a slice that does not hold them all stays
abbrev pub joint_of : Answer LabsAnswer → Answer Bytes
joint_of answer = answer >>= λ labs. labs.joint

unfoldable pub marks_after : Answer LabsAnswer → List ℕ → List ℕ
marks_after (accepted labs) slice = output_after (written (length slice) (flat (map mark_words labs.marks))) slice
marks_after (refused r) slice = slice

module _ (tag : Kind → Bytes) where
  -- of what a lab's texts hold, by its quota and E
  unfoldable pub mark_of : ℕ → ℕ → List Bytes → Mark
  mark_of limit quota held = marked quota (map_accepted length (gather_texts tag Checked limit (numbered 0 held) []))

  abbrev pub mark_at : ℕ → Bytes → List ℕ → List ℕ → ℕ → Mark
  mark_at limit bundle labs quotas lab = mark_of limit (quota_of quotas lab) (lab_contents bundle labs lab)

  -- the lab of the i-th text is let in
  abbrev pub is_in_text : ℕ → Bytes → List ℕ → List ℕ → ℕ → Bool
  is_in_text limit bundle labs quotas i = is_let_in (mark_at limit bundle labs quotas (lab_at labs i))

  abbrev pub let_in_texts : ℕ → Bytes → List ℕ → List ℕ → List Text
  let_in_texts limit bundle labs quotas = choose_texts (is_in_text limit bundle labs quotas) (text_at bundle) 0 (text_count bundle)

  abbrev pub gather_labs : Bytes → List ℕ → List ℕ → ℕ → ℕ → LabsAnswer
  gather_labs bundle labs quotas words room =
      record {
        marks = map (mark_at (entry_limit words) bundle labs quotas) (from 1 max_labs);
        joint = gather_many tag Checked (let_in_texts (entry_limit words) bundle labs quotas) words room;
      }

  unfoldable pub gather_quotas : Bytes → List ℕ → List ℕ → ℕ → ℕ → Answer LabsAnswer
  gather_quotas bundle labs quotas words room =
      if well_formed bundle then (if are_labs bundle labs quotas then accepted (gather_labs bundle labs quotas words room) else refuse MalformedLabs) else refuse MalformedBundle

  -- ---- what is claimed

  -- texts that are to be gathered, and the number of entries of their joined report
  abbrev pub Holding : ℕ → List Bytes → ℕ → Type 0
  Holding limit held n = (reports : List Report) × Gatherable tag limit (numbered 0 held) reports × (n ≡ length (joined_report reports))

  pub record QuotasClaim : Type 0 where
    pub answers : (bundle : Bytes) (labs quotas : List ℕ) (words room : ℕ) → well_formed bundle ≡ true → are_labs bundle labs quotas ≡ true
        → gather_quotas bundle labs quotas words room ≡ accepted (gather_labs bundle labs quotas words room)
    -- the marks are those of labs 1 to 8 in order
    pub mark_of_lem : (bundle : Bytes) (labs quotas : List ℕ) (words room lab : ℕ) (d : Mark) → 1 ≤ lab → lab ≤ max_labs
        → get_or (gather_labs bundle labs quotas words room).marks (lab - 1) d ≡ mark_at (entry_limit words) bundle labs quotas lab
    -- exactly where its texts are to be gathered and the joined report has that number of entries
    pub let_in : (limit quota n : ℕ) (held : List Bytes) → (mark_of limit quota held ≡ LetIn n) ↔ (Holding limit held n × (n ≤ quota))
    pub over_quota : (limit quota n : ℕ) (held : List Bytes) → (mark_of limit quota held ≡ OverQuota n) ↔ (Holding limit held n × (quota < n))
    -- exactly with the refusal of its gather, which is never 14
    pub refused_lab : (limit quota : ℕ) (held : List Bytes) (r : Refusal)
        → (mark_of limit quota held ≡ RefusedLab r) ↔ (gather_texts tag Checked limit (numbered 0 held) [] ≡ refused r)
    pub never_14 : (limit quota : ℕ) (held : List Bytes) (r : Refusal) → mark_of limit quota held ≡ RefusedLab r → number_of r.fault ≡ 14 → ⊥
    -- the same mark where a lab's own texts hold the same in the same order, whatever the other labs sent
    pub own_mark : (a b : Bytes) (labs labs' quotas quotas' : List ℕ) (words words' lab : ℕ) → lab_contents a labs lab ≡ lab_contents b labs' lab
        → quota_of quotas lab ≡ quota_of quotas' lab → entry_limit words' ≡ entry_limit words
        → mark_at (entry_limit words) a labs quotas lab ≡ mark_at (entry_limit words') b labs' quotas' lab
    -- so where texts of other labs alone are changed
    pub others_changed : (a b : Bytes) (labs quotas : List ℕ) (words lab : ℕ) → text_count a ≡ text_count b
        → ((i : ℕ) → i < text_count a → eqb lab (lab_at labs i) ≡ true → text_at a i ≡ text_at b i)
        → mark_at (entry_limit words) a labs quotas lab ≡ mark_at (entry_limit words) b labs quotas lab
    -- demand 3 of the texts of the labs that are let in
    pub joint_accepts : (bundle : Bytes) (labs quotas : List ℕ) (words room : ℕ)
        → IsAccepted (gather_labs bundle labs quotas words room).joint
        ↔ ((reports : List Report) × AcceptableTexts tag (let_in_texts (entry_limit words) bundle labs quotas) words room reports)
    pub joint_writes : (bundle : Bytes) (labs quotas : List ℕ) (words room : ℕ) (reports : List Report)
        → AcceptableTexts tag (let_in_texts (entry_limit words) bundle labs quotas) words room reports
        → (gather_labs bundle labs quotas words room).joint ≡ accepted (print_report tag (joined_report reports))
    pub joint_reads_back : (bundle : Bytes) (labs quotas : List ℕ) (words room : ℕ) (reports : List Report)
        → AcceptableTexts tag (let_in_texts (entry_limit words) bundle labs quotas) words room reports
        → (bytes : Bytes) → bytes ≡ print_report tag (joined_report reports)
        → (words' room' : ℕ) → entry_limit words' ≡ entry_limit words → length bytes ≤ room'
        → (read_text tag (entry_limit words') bytes ≡ accepted (joined_report reports)) × (read_and_print tag bytes words' room' ≡ accepted bytes)
    -- a refusal of a text that is let in has its index in the whole bundle
    pub joint_refused : (bundle : Bytes) (labs quotas : List ℕ) (limit : ℕ) (r : Refusal)
        → gather_texts tag Checked limit (let_in_texts limit bundle labs quotas) [] ≡ refused r
        → (r.text < text_count bundle) × RefusedText tag (is_in_text limit bundle labs quotas) (text_at bundle) limit r.text r
    -- as a bundle that has exactly these texts is gathered
    pub as_gathered : (bundle part : Bytes) (labs quotas : List ℕ) (words words' room : ℕ) → well_formed part ≡ true
        → texts_of part ≡ contents (let_in_texts (entry_limit words) bundle labs quotas) → entry_limit words' ≡ entry_limit words
        → value (gather_labs bundle labs quotas words room).joint ≡ value (gather tag Checked part words' room)
    -- any order, each text taking its lab number along: the same labs are let in, with the same numbers of entries, whatever the spellings
    pub same_entries : (a b : Bytes) (labs labs' quotas : List ℕ) (words words' lab : ℕ) → SameLabelled eqb (lab_texts a labs) (lab_texts b labs')
        → entry_limit words' ≡ entry_limit words
        → (is_let_in (mark_at (entry_limit words) a labs quotas lab) ≡ is_let_in (mark_at (entry_limit words') b labs' quotas lab))
        × (entries_of (mark_at (entry_limit words) a labs quotas lab) ≡ entries_of (mark_at (entry_limit words') b labs' quotas lab))
    -- and the joint gather is accepted alike, with the same bytes, where the texts that it gathers spell each path once
    pub any_order : (a b : Bytes) (labs labs' quotas : List ℕ) (words words' room : ℕ) → SameLabelled eqb (lab_texts a labs) (lab_texts b labs')
        → entry_limit words' ≡ entry_limit words → SpelledOnce tag words (let_in_texts (entry_limit words) a labs quotas)
        → value (gather_labs a labs quotas words room).joint ≡ value (gather_labs b labs' quotas words' room).joint
