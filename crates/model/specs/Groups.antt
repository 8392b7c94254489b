-- What follows for gathers in parts and in both modes: gathers of what gathers wrote, the gather of one text, and reading back what any
-- gather wrote. Assumes nothing.
use Rattle.std.specs.Prelude.{ℕ, ◌≤◌, ◌≡◌, true, List, [], ◌∷◌, map, length}
use Rattle.ordmap.specs.Result.{value}
use Rattle.ordmap.specs.Gathering.{flat, times}
use Rattle.model.specs.declared.Kind.{Kind}
use Rattle.model.specs.declared.Mode.{Mode}
use Rattle.model.specs.declared.Mode.TheVariants.{Checked}
use Rattle.model.specs.Bytes.{Bytes, same_bytes}
use Rattle.model.specs.Answer.{accepted}
use Rattle.model.specs.Report.{Report}
use Rattle.model.specs.Printing.{print_report}
use Rattle.model.specs.Reading.{read_text}
use Rattle.model.specs.Bundle.{contents, well_formed, texts}
use Rattle.model.specs.Gather.{entry_limit, read_and_print, gather}
use Rattle.model.specs.Joined.{read_all, one_spelling}

-- what a bundle's texts hold
abbrev pub texts_of : Bytes → List Bytes
texts_of bundle = contents (texts bundle)

module _ (tag : Kind → Bytes) where
  -- the checked gather of each bundle is accepted under the limit, and writes the bytes beside it
  abbrev pub Written : ℕ → List Bytes → List Bytes → Type 0
  Written limit [] [] = Unit {0}
  Written limit [] (out ∷ outs) = ⊥
  Written limit (group ∷ groups) [] = ⊥
  Written limit (group ∷ groups) (out ∷ outs) =
      ((words : ℕ) × (room : ℕ) × (entry_limit words ≡ limit) × (gather tag Checked group words room ≡ accepted out)) × Written limit groups outs

  pub record Groups : Type 0 where
    -- what the groups' gathers wrote, gathered: accepted alike and the same bytes as the gather of all their texts, group after group
    pub in_order : (groups outs : List Bytes) (parts whole : Bytes) (words room : ℕ) → Written (entry_limit words) groups outs
        → well_formed parts ≡ true → texts_of parts ≡ outs → well_formed whole ≡ true → texts_of whole ≡ flat (map texts_of groups)
        → value (gather tag Checked parts words room) ≡ value (gather tag Checked whole words room)
    -- and in any order, each text equally often, where each section's path has one spelling
    pub any_order : (groups outs : List Bytes) (parts whole : Bytes) (words room : ℕ) → Written (entry_limit words) groups outs
        → well_formed parts ≡ true → texts_of parts ≡ outs → well_formed whole ≡ true
        → ((bytes : Bytes) → times same_bytes bytes (texts_of whole) ≡ times same_bytes bytes (flat (map texts_of groups)))
        → ((reports : List Report) → read_all tag (entry_limit words) (texts whole) ≡ accepted reports → one_spelling reports ≡ true)
        → value (gather tag Checked parts words room) ≡ value (gather tag Checked whole words room)
    -- the gather of one text answers as the reading of that text does, in both modes, refusals included
    pub one_text : (mode : Mode) (bundle text : Bytes) (words room : ℕ) → well_formed bundle ≡ true → texts_of bundle ≡ text ∷ []
        → gather tag mode bundle words room ≡ read_and_print tag text words room
    -- what a gather wrote, checked or lossy, is a report printed, and reads back as that report and the same bytes
    pub reads_back : (mode : Mode) (bundle : Bytes) (words room : ℕ) (bytes : Bytes) → gather tag mode bundle words room ≡ accepted bytes
        → (words' room' : ℕ) → entry_limit words' ≡ entry_limit words → length bytes ≤ room'
        → (report : Report) × (bytes ≡ print_report tag report) × (read_text tag (entry_limit words') bytes ≡ accepted report)
        × (read_and_print tag bytes words' room' ≡ accepted bytes)
