-- The checked gather of a bundle with revisions, and what is claimed of it for any table of tags (request N4). Clause by clause:
--   "Of each run only the text with the highest revision is gathered": `one_each` and `answers`.
--   "The others aren't read, so their faults don't count": `unread`.
--   "The gather claim covers the chosen texts of every such bundle without the fault of 20": `accepts`, `writes`, `reads_back`,
--   "each text taking its run number and revision along in any order": `any_order`.
--   "the order of the rest changes neither acceptance nor bytes": `rest` and `moved`.
--   "Text indexes count the whole bundle": `refused_text`.
--   "It refuses with 20 a run that has the same revision twice, tested right after 16 and carrying the index of the first text that repeats an
--   earlier pair": `repeats` and `no_repeats`.
-- Assumes nothing.
use Rattle.std.specs.Prelude.{ℕ, ◌≤◌, ◌<◌, ◌≡◌, ◌↔◌, true, List, [], length, if◌then◌else◌}
use Rattle.std.proofs.Math.Option.{none, some}
use Rattle.ordmap.specs.Result.{value, IsAccepted}
use Rattle.model.specs.declared.Fault.TheVariants.{MalformedBundle, RepeatedRevision}
use Rattle.model.specs.declared.Kind.{Kind}
use Rattle.model.specs.declared.Mode.TheVariants.{Checked}
use Rattle.model.specs.declared.Refusal.{Refusal}
use Rattle.model.specs.Bytes.{Bytes}
use Rattle.model.specs.Answer.{Answer, accepted, refused, ◌>>=◌, refuse, in_text}
use Rattle.model.specs.Report.{Report}
use Rattle.model.specs.Reading.{read_text}
use Rattle.model.specs.Printing.{print_report}
use Rattle.model.specs.Output.{written}
use Rattle.model.specs.Bundle.{text_count, contents, well_formed}
use Rattle.model.specs.Gather.{entry_limit, read_and_print, gather_texts, gather_many, gather}
use Rattle.model.specs.Groups.{texts_of}
use Rattle.model.specs.Joined.{joined_report}
use Rattle.text_choice.specs.Choice.{SameLabelled, AcceptableTexts, RefusedText, SpelledOnce}
use Rattle.text_choice.specs.RevisionBundle.{
  well_formed_revisions,
  run_at,
  revision_at,
  revision_text,
  is_highest,
  highest_texts,
  same_pair,
  paired_texts,
  first_repeat,
}

-- ---- the choice

-- the one text of a run that is chosen
pub record HighestOfRun (bundle : Bytes) (run : ℕ) : Type 0 where
  pub index : ℕ
  pub inside : index < text_count bundle
  pub of_run : run_at bundle index ≡ run
  pub is_chosen : is_highest bundle index ≡ true
  pub highest : (j : ℕ) → j < text_count bundle → run_at bundle j ≡ run → revision_at bundle j ≤ revision_at bundle index
  pub no_other : (j : ℕ) → j < text_count bundle → run_at bundle j ≡ run → is_highest bundle j ≡ true → j ≡ index

-- no two of the first n texts have the same run and revision
abbrev pub AllDiffer : Bytes → ℕ → Type 0
AllDiffer bundle n = (j k : ℕ) → j < k → k < n → run_at bundle j ≡ run_at bundle k → revision_at bundle j ≡ revision_at bundle k → ⊥

-- the i-th text is the first that repeats an earlier pair
pub record FirstRepeat (bundle : Bytes) (i : ℕ) : Type 0 where
  pub inside : i < text_count bundle
  pub earlier : ℕ
  pub is_earlier : earlier < i
  pub same_run : run_at bundle earlier ≡ run_at bundle i
  pub same_revision : revision_at bundle earlier ≡ revision_at bundle i
  pub none_before : AllDiffer bundle i

-- the same bundle but for the contents of texts that are not chosen
pub record SameChosen (a b : Bytes) : Type 0 where
  pub same_count : text_count a ≡ text_count b
  pub same_run : (i : ℕ) → i < text_count a → run_at a i ≡ run_at b i
  pub same_revision : (i : ℕ) → i < text_count a → revision_at a i ≡ revision_at b i
  pub same_text : (i : ℕ) → i < text_count a → is_highest a i ≡ true → revision_text a i ≡ revision_text b i

-- ---- the call

module _ (tag : Kind → Bytes) where
  -- the chosen texts from an empty report on
  unfoldable pub gather_highest : Bytes → ℕ → Answer Report
  gather_highest bundle words =
      if well_formed_revisions bundle
      then elim (first_repeat bundle) [
        | none ↦ gather_texts tag Checked (entry_limit words) (highest_texts bundle) []
        | some i ↦ in_text i (refuse RepeatedRevision)
      ]
      else refuse MalformedBundle

  -- the joined report printed
  unfoldable pub gather_revisions : Bytes → ℕ → ℕ → Answer Bytes
  gather_revisions bundle words room = gather_highest bundle words >>= λ report. written room (print_report tag report)

  -- a bundle that it is to accept, and the reports of the chosen texts
  pub record AcceptableRevisions (bundle : Bytes) (words room : ℕ) (reports : List Report) : Type 0 where
    pub well_formed_lem : well_formed_revisions bundle ≡ true
    pub no_repeat : first_repeat bundle ≡ none
    pub acceptable : AcceptableTexts tag (highest_texts bundle) words room reports

  pub record RevisionsClaim : Type 0 where
    -- one text of each run is chosen
    pub one_each : (bundle : Bytes) → first_repeat bundle ≡ none → (i : ℕ) → i < text_count bundle → HighestOfRun bundle (run_at bundle i)
    -- 20, at the first text that repeats an earlier pair, whatever its revision and the texts
    pub repeats : (bundle : Bytes) (words room i : ℕ) → well_formed_revisions bundle ≡ true → FirstRepeat bundle i
        → gather_revisions bundle words room ≡ in_text i (refuse RepeatedRevision)
    pub no_repeats : (bundle : Bytes) → (first_repeat bundle ≡ none) ↔ AllDiffer bundle (text_count bundle)
    -- otherwise the chosen texts are gathered
    pub answers : (bundle : Bytes) (words room : ℕ) → well_formed_revisions bundle ≡ true → first_repeat bundle ≡ none
        → gather_revisions bundle words room ≡ gather_many tag Checked (highest_texts bundle) words room
    -- accepted exactly when their gather is to be, and then the joined report is written
    pub accepts : (bundle : Bytes) (words room : ℕ)
        → IsAccepted (gather_revisions bundle words room) ↔ ((reports : List Report) × AcceptableRevisions bundle words room reports)
    pub writes : (bundle : Bytes) (words room : ℕ) (reports : List Report) → AcceptableRevisions bundle words room reports
        → gather_revisions bundle words room ≡ accepted (print_report tag (joined_report reports))
    -- what was written is read as the same report, and the same bytes are written
    pub reads_back : (bundle : Bytes) (words room : ℕ) (reports : List Report) → AcceptableRevisions bundle words room reports
        → (bytes : Bytes) → bytes ≡ print_report tag (joined_report reports)
        → (words' room' : ℕ) → entry_limit words' ≡ entry_limit words → length bytes ≤ room'
        → (read_text tag (entry_limit words') bytes ≡ accepted (joined_report reports)) × (read_and_print tag bytes words' room' ≡ accepted bytes)
    -- a refusal of a chosen text has its index in the whole bundle
    pub refused_text : (bundle : Bytes) (limit : ℕ) (r : Refusal) → gather_texts tag Checked limit (highest_texts bundle) [] ≡ refused r
        → (r.text < text_count bundle) × RefusedText tag (is_highest bundle) (revision_text bundle) limit r.text r
    -- as a bundle of the first kind that has exactly the chosen texts is gathered
    pub as_gathered : (bundle part : Bytes) (words words' room : ℕ) → well_formed_revisions bundle ≡ true → first_repeat bundle ≡ none
        → well_formed part ≡ true → texts_of part ≡ contents (highest_texts bundle) → entry_limit words' ≡ entry_limit words
        → value (gather_revisions bundle words room) ≡ value (gather tag Checked part words' room)
    -- any order, each text taking its run number and revision along: accepted alike, with the same bytes
    pub any_order : (a b : Bytes) (words words' room : ℕ) → well_formed_revisions a ≡ true → well_formed_revisions b ≡ true
        → SameLabelled same_pair (paired_texts a) (paired_texts b) → entry_limit words' ≡ entry_limit words → SpelledOnce tag words (highest_texts a)
        → value (gather_revisions a words room) ≡ value (gather_revisions b words' room)
    -- and so in any spelling, where the chosen texts keep their order
    pub moved : (a b : Bytes) (words words' room : ℕ) → well_formed_revisions a ≡ true → well_formed_revisions b ≡ true
        → SameLabelled same_pair (paired_texts a) (paired_texts b) → entry_limit words' ≡ entry_limit words
        → contents (highest_texts a) ≡ contents (highest_texts b)
        → value (gather_revisions a words room) ≡ value (gather_revisions b words' room)
    -- the number, order and contents of the rest do not count
    pub rest : (a b : Bytes) (words words' room : ℕ) → well_formed_revisions a ≡ true → well_formed_revisions b ≡ true
        → first_repeat a ≡ none → first_repeat b ≡ none → entry_limit words' ≡ entry_limit words → contents (highest_texts a) ≡ contents (highest_texts b)
        → value (gather_revisions a words room) ≡ value (gather_revisions b words' room)
    -- other contents of the rest alone: the same answer, refusals included
    pub unread : (a b : Bytes) (words room : ℕ) → well_formed_revisions a ≡ true → well_formed_revisions b ≡ true → SameChosen a b
        → gather_revisions a words room ≡ gather_revisions b words room
