-- Labs and their marks, as the code meets them. Assumes nothing.
use Rattle.std.specs.Prelude.{ℕ, zero, suc, ◌*◌, ◌-◌, ◌≡◌, Bool, List, [], map, leb, eqb, get_or, if◌then◌else◌}
use Rattle.ordmap.specs.Gathering.{flat}
use Rattle.model.specs.declared.Fault.TheVariants.{MalformedBundle, MalformedLabs}
use Rattle.model.specs.declared.Kind.{Kind}
use Rattle.model.specs.declared.Mode.TheVariants.{Checked}
use Rattle.model.specs.Lists.{from}
use Rattle.model.specs.Bytes.{Bytes}
use Rattle.model.specs.Answer.{Answer, refuse}
use Rattle.model.specs.Report.{Report}
use Rattle.model.specs.Bundle.{well_formed}
use Rattle.model.specs.Gather.{entry_limit, gather_texts}
use Rattle.text_choice.specs.declared.Mark.{Mark}
use Rattle.text_choice.specs.declared.Mark.TheVariants.{LetIn, OverQuota}
use Rattle.text_choice.specs.Quotas.{are_labs, lab_at, mark_words, mark_at, let_in_texts, gather_quotas, marks_after}
use Rattle.std.specs.Prelude.{Result as Answered}
use Rattle.model.specs.declared.Refusal.{Refusal}
use Rattle.joined_table.specs.Gathering.{BundleGathered}

-- a mark has five words
abbrev pub mark_size : ℕ
mark_size = 5

-- the i-th text is the lab's
abbrev pub is_of_lab : List ℕ → ℕ → ℕ → Bool
is_of_lab labs lab i = eqb lab (lab_at labs i)

-- how many of the first i numbers pass a test
unfoldable pub rank_of : (ℕ → Bool) → ℕ → ℕ
rank_of test zero = 0
rank_of test (suc i) = if test i then suc (rank_of test i) else rank_of test i

-- the mark of a lab that has so many entries
abbrev pub lab_mark : ℕ → ℕ → Mark
lab_mark quota entries = if leb entries quota then LetIn entries else OverQuota entries

-- a lab is let in, by the first word of its mark; so is a text, by that of its lab
abbrev pub is_let_in_by : List ℕ → ℕ → Bool
is_let_in_by marks lab = eqb (get_or marks (mark_size * (lab - 1)) 0) 0

abbrev pub is_in_by : List ℕ → List ℕ → ℕ → Bool
is_in_by marks labs i = is_let_in_by marks (lab_at labs i)

module _ (tag : Kind → Bytes) where
  -- the words of the marks of labs 1 to n
  abbrev pub marks_to : ℕ → Bytes → List ℕ → List ℕ → ℕ → List ℕ
  marks_to limit bundle labs quotas n = flat (map mark_words (map (mark_at tag limit bundle labs quotas) (from 1 n)))

  -- the joint gather, before it is printed
  unfoldable pub gather_joint : Bytes → List ℕ → List ℕ → ℕ → Answer Report
  gather_joint bundle labs quotas words =
      if well_formed bundle
      then (if are_labs bundle labs quotas then gather_texts tag Checked (entry_limit words) (let_in_texts tag (entry_limit words) bundle labs quotas) [] else refuse MalformedLabs)
      else refuse MalformedBundle

  -- the words hold what the joint gather made, and the slice for the marks is left as the definition says
  pub record LabsGathered (bundle : Bytes) (labs quotas : List ℕ) (words : ℕ) (ws marks marks' : List ℕ) (r : Answered ℕ Refusal) : Type 0 where
    pub joint : BundleGathered (gather_joint bundle labs quotas words) bundle ws (entry_limit words) r
    pub marked : (room : ℕ) → marks' ≡ marks_after (gather_quotas tag bundle labs quotas words room) marks
