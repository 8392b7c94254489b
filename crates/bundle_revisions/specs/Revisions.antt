-- Runs and revisions of a bundle, as the code meets them. Assumes nothing.
use Rattle.std.specs.Prelude.{ℕ, ◌+◌, ◌*◌, ◌≤◌, ◌<◌, ◌≡◌, Bool, ◌&&◌, List, ltb, eqb, length}
use Rattle.std.proofs.Math.Option.{none, some}
use Rattle.model.specs.Bytes.{Bytes}
use Rattle.model.specs.Limits.{max_texts}
use Rattle.model.specs.Bundle.{text_count}
use Rattle.text_choice.specs.RevisionBundle.{run_at, revision_at, is_highest, first_repeat}
use Rattle.bundle.specs.Marks.{is_marked}

-- n is the number of texts, and the bundle holds their arrays
pub record Counted (bundle : Bytes) (n : ℕ) : Type 0 where
  pub count : n ≡ text_count bundle
  pub few : n ≤ max_texts
  pub room : 8 + 16 * n ≤ length bundle

-- text j is a higher revision of the run of text i
abbrev pub is_higher : Bytes → ℕ → ℕ → Bool
is_higher bundle i j = eqb (run_at bundle i) (run_at bundle j) && ltb (revision_at bundle i) (revision_at bundle j)

-- `first_repeat` as a number: n where there is none
pub record FirstRepeatAt (bundle : Bytes) (r : ℕ) : Type 0 where
  pub inside : r ≤ text_count bundle
  pub found : r < text_count bundle → first_repeat bundle ≡ some r
  pub missing : text_count bundle ≤ r → first_repeat bundle ≡ none

-- the marks choose the texts that have the highest revision of their run
abbrev pub HighestMarked : Bytes → List ℕ → Type 0
HighestMarked bundle marks = (i : ℕ) → i < text_count bundle → is_marked marks i ≡ is_highest bundle i
