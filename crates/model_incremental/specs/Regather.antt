-- Gathers of what gathers wrote, for any number of texts. A bundle names at most 64; a tool that has more may gather them in groups, and
-- gather what these gathers wrote, round after round, all under one entry limit. What comes out is what a gather of all the texts at once
-- would give: accepted alike, and the same bytes. Where all the texts are one bundle's, the model's Groups says so already.
--   Reports: joined in groups, and these joined, they are all of them joined (`joined`), and the conditions to accept them are those of all
--   (`starts`, `checksums`, `sums`).
--   Texts: the groups' outputs, gathered, are all the texts gathered (`same_texts`). Where all are accepted, so is each group alone
--   (`each_group`): a tool that meets a group's refusal, other than for want of output, may stop there.
--   Bundles: one round (`same`), and any number of rounds, texts beside outputs (`rounds`).
-- All this is about the checked gather. Rounds that each begin with what the one before wrote, checked or lossy: Folded.
-- Assumes nothing.
use Rattle.std.specs.Prelude.{ℕ, ◌≡◌, true}
use mathlib.Core.List.{List, [], ◌∷◌, ◌++◌, map, Memᴰ as Member}
use Rattle.ordmap.specs.Result.{value, IsAccepted}
use Rattle.ordmap.specs.Gathering.{flat}
use Rattle.model.specs.declared.Kind.{Kind}
use Rattle.model.specs.declared.Mode.{Mode}
use Rattle.model.specs.declared.Mode.TheVariants.{Checked}
use Rattle.model.specs.Bytes.{Bytes}
use Rattle.model.specs.Answer.{accepted}
use Rattle.model.specs.Report.{Report}
use Rattle.model.specs.Printing.{print_report}
use Rattle.model.specs.Bundle.{Text, contents, well_formed, texts}
use Rattle.model.specs.Gather.{entry_limit, gather_texts, gather_many, gather}
use Rattle.model.specs.Groups.{texts_of, Written}
use Rattle.model.specs.Joined.{joined_report, starts_agree, checksums_agree, sums_fit}

module _ (tag : Kind → Bytes) where
  -- each group of texts is accepted by itself, and its report, printed, is the output beside it
  abbrev pub Gathered : ℕ → List (List Text) → List Bytes → Type 0
  Gathered limit [] [] = Unit {0}
  Gathered limit [] (output ∷ outputs) = ⊥
  Gathered limit (group ∷ groups) [] = ⊥
  Gathered limit (group ∷ groups) (output ∷ outputs) =
      ((report : Report) × (gather_texts tag Checked limit group [] ≡ accepted report) × (output ≡ print_report tag report))
      × Gathered limit groups outputs

  -- files at hand, and the texts that they stand for
  pub data StandFor (limit : ℕ) : List Bytes → List Bytes → Type 0 where
    no_file : StandFor limit [] []
    -- a text stands for itself
    text_file : (text : Bytes) {files all : List Bytes} → StandFor limit files all → StandFor limit (text ∷ files) (text ∷ all)
    -- what the gather of a bundle of files wrote stands for all that these files stand for
    output_file : (bundle output : Bytes) (words room : ℕ) {inner files all : List Bytes} → entry_limit words ≡ limit
        → gather tag Checked bundle words room ≡ accepted output → StandFor limit (texts_of bundle) inner
        → StandFor limit files all → StandFor limit (output ∷ files) (inner ++ all)

  pub record Regather : Type 0 where
    -- groups of reports, empty ones too: keys, sums, starts, checksums and first spellings are those of all
    pub joined : (groups : List (List Report)) → joined_report (map joined_report groups) ≡ joined_report (flat groups)
    pub starts : (groups : List (List Report)) → ((group : List Report) → Member group groups → starts_agree group ≡ true)
        → starts_agree (map joined_report groups) ≡ starts_agree (flat groups)
    pub checksums : (groups : List (List Report)) → ((group : List Report) → Member group groups → checksums_agree group ≡ true)
        → checksums_agree (map joined_report groups) ≡ checksums_agree (flat groups)
    pub sums : (groups : List (List Report)) → sums_fit (map joined_report groups) ≡ sums_fit (flat groups)
    -- groups of texts: the outputs, gathered, are all the texts gathered
    pub same_texts : (words : ℕ) (groups : List (List Text)) (outputs : List Bytes) (outer all : List Text)
        → Gathered (entry_limit words) groups outputs → contents outer ≡ outputs → contents all ≡ flat (map contents groups)
        → value (gather_texts tag Checked (entry_limit words) outer []) ≡ value (gather_texts tag Checked (entry_limit words) all [])
    -- where all texts are accepted, so is each group by itself
    pub each_group : (words : ℕ) (groups : List (List Text)) (all : List Text) → contents all ≡ flat (map contents groups)
        → IsAccepted (gather_texts tag Checked (entry_limit words) all [])
        → (group : List Text) → Member group groups → IsAccepted (gather_texts tag Checked (entry_limit words) group [])
    -- a bundle's gather is that of its texts
    pub bundled : (mode : Mode) (bundle : Bytes) (words room : ℕ) → well_formed bundle ≡ true
        → gather tag mode bundle words room ≡ gather_many tag mode (texts bundle) words room
    -- bundles, each gathered by itself, and a bundle of what that wrote
    pub same : (parts outputs : List Bytes) (outer : Bytes) (all : List Text) (words room : ℕ) → Written tag (entry_limit words) parts outputs
        → well_formed outer ≡ true → texts_of outer ≡ outputs → contents all ≡ flat (map texts_of parts)
        → value (gather tag Checked outer words room) ≡ value (gather_many tag Checked all words room)
    -- a bundle of files, whatever rounds of gathers they come from
    pub rounds : (outer : Bytes) (all : List Text) (words room : ℕ) → well_formed outer ≡ true
        → StandFor (entry_limit words) (texts_of outer) (contents all)
        → value (gather tag Checked outer words room) ≡ value (gather_many tag Checked all words room)
