-- Bundles with revisions, the second kind: n and T, the starts, the lengths, the run numbers, the revisions, and T text bytes. Sizes, starts and
-- lengths are where they are in a bundle of the first kind. Of each run the text with the highest revision is chosen. Assumes nothing.
use Rattle.std.specs.Prelude.{ℕ, ◌+◌, ◌*◌, Bool, true, ◌&&◌, List, [], ◌∷◌, leb, eqb, length, take, drop, if◌then◌else◌}
use Rattle.std.proofs.Math.Option.{Option, none, some}
use Rattle.model.specs.Lists.{all, any, from}
use Rattle.model.specs.Bytes.{Bytes}
use Rattle.model.specs.Limits.{max_texts}
use Rattle.model.specs.Bundle.{u32_at, text_count, text_bytes, text_start, text_length, Text}
use Rattle.text_choice.specs.Choice.{choose_texts, labelled}

-- ---- the format

-- n at most 64, exactly 8 + 16n + T bytes, each start + length at most T
unfoldable pub well_formed_revisions : Bytes → Bool
well_formed_revisions bundle =
    leb 8 (length bundle)
    && leb (text_count bundle) max_texts
    && eqb (length bundle) (8 + 16 * text_count bundle + text_bytes bundle)
    && all (λ i. leb (text_start bundle i + text_length bundle i) (text_bytes bundle)) (from 0 (text_count bundle))

unfoldable pub run_at : Bytes → ℕ → ℕ
run_at bundle i = u32_at bundle (8 + 8 * text_count bundle + 4 * i)

unfoldable pub revision_at : Bytes → ℕ → ℕ
revision_at bundle i = u32_at bundle (8 + 12 * text_count bundle + 4 * i)

-- ---- the choice: "Of each run only the text with the highest revision is gathered"

-- no text of its run has a higher revision
unfoldable pub is_highest : Bytes → ℕ → Bool
is_highest bundle i =
    all (λ j. if eqb (run_at bundle j) (run_at bundle i) then leb (revision_at bundle j) (revision_at bundle i) else true) (from 0 (text_count bundle))

-- the i-th text: "Text indexes count the whole bundle"
unfoldable pub revision_text : Bytes → ℕ → Text
revision_text bundle i =
    record { index = i; bytes = take (text_length bundle i) (drop (8 + 16 * text_count bundle + text_start bundle i) bundle) }

unfoldable pub highest_texts : Bytes → List Text
highest_texts bundle = choose_texts (is_highest bundle) (revision_text bundle) 0 (text_count bundle)

-- ---- pairs of run and revision, by which a text is known in any order

abbrev pub pair_at : Bytes → ℕ → ℕ × ℕ
pair_at bundle i = (run_at bundle i, revision_at bundle i)

abbrev pub same_pair : ℕ × ℕ → ℕ × ℕ → Bool
same_pair a b = eqb a.0 b.0 && eqb a.1 b.1

-- what all texts hold, each with its pair
abbrev pub paired_texts : Bytes → List ((ℕ × ℕ) × Bytes)
paired_texts bundle = labelled (pair_at bundle) (revision_text bundle) (text_count bundle)

-- ---- "the first text that repeats an earlier pair"

unfoldable pub is_repeat : Bytes → ℕ → Bool
is_repeat bundle i = any (λ j. same_pair (pair_at bundle j) (pair_at bundle i)) (from 0 i)

-- the first number that passes a test
unfoldable pub first_of : (ℕ → Bool) → List ℕ → Option ℕ
first_of test [] = none
first_of test (i ∷ is) = if test i then some i else first_of test is

unfoldable pub first_repeat : Bytes → Option ℕ
first_repeat bundle = first_of (is_repeat bundle) (from 0 (text_count bundle))
