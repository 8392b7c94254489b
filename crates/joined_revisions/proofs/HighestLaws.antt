-- The highest revisions of a bundle gathered. Assumes nothing.
use Prim.Native.Nat.{ℕ, ◌+◌, ◌*◌, ◌≤◌, ◌<◌}
use native.Mathlib.Omega.{arith}
use mathlib.Core.Path.{◌≡◌, refl, sym, ◌∙◌}
use mathlib.Core.Bool.{Bool, true, false}
use mathlib.Core.List.{List, []}
use Rattle.model.specs.declared.Kind.{Kind}
use Rattle.model.specs.declared.Fault.TheVariants.{MalformedBundle}
use Rattle.model.specs.declared.Mode.TheVariants.{Checked}
use Rattle.model.specs.declared.Refusal.{Refusal}
use Rattle.model.specs.Bytes.{Bytes}
use Rattle.model.specs.Answer.{unplaced}
use Rattle.model.specs.Limits.{max_texts}
use Rattle.model.specs.Bundle.{text_count}
use Rattle.model.specs.Gather.{entry_limit, gather_texts}
use Rattle.text_choice.specs.RevisionBundle.{well_formed_revisions, revision_text, is_highest, highest_texts}
use Rattle.text_choice.specs.Revisions.{gather_highest}
use Rattle.text_choice.proofs.Positions.{choose_agree}
use Rattle.bundle.specs.Marks.{is_marked}
use Rattle.bundle.specs.Places.{text_from, TextsInside}
use Rattle.bundle_revisions.specs.Revisions.{Counted, FirstRepeatAt, HighestMarked}
use Rattle.bundle_revisions.proofs.RevisionLaws.{well_few, well_length, well_text}
use Rattle.std.specs.Prelude.{Result as Answered, Err}
use Rattle.joined_table.specs.Gathering.{marked_texts, BundleGathered}
use Rattle.joined_revisions.specs.Repeats.{repeat_at}

module _ (bundle : Bytes) (b : Bool) (is : b ≡ well_formed_revisions bundle) (h : b ≡ true) where
  pub well : well_formed_revisions bundle ≡ true
  well = sym is ∙ h

  pub texts-inside : (body : ℕ) → body ≡ 8 + 16 * text_count bundle → TextsInside bundle body
  texts-inside body at = record {
    few = well_few bundle well;
    arrays = omega (arith, well_length bundle well);
    inside = λ i l. omega (arith, well_length bundle well, well_text bundle well i l);
  }

  -- the number of a text is small
  pub repeat_few : (i n : ℕ) → Counted bundle n → i < n → i < max_texts
  repeat_few i n c l = omega (arith, c.few)

  module _ (tag : Kind → Bytes) (words : ℕ) (ws : List ℕ) (i : ℕ) (first : FirstRepeatAt bundle i) (n : ℕ) (c : Counted bundle n) where
    -- a pair is repeated
    pub repeat_refused : i < n → (q : Refusal) → q ≡ repeat_at i → BundleGathered (gather_highest tag bundle words) bundle ws (entry_limit words) (Err q)
    unfolding gather_highest
    repeat_refused l q e =
        let found = first.found (omega (arith, c.count)) in
        record { is = rw (well, found, e); held = tt }

    -- none is: the marked texts are those of the highest revisions
    pub highest-gathered : n ≤ i → (marks : List ℕ) → HighestMarked bundle marks → (body : ℕ) → body ≡ 8 + 16 * text_count bundle → (r : Answered ℕ Refusal)
        → BundleGathered (gather_texts tag Checked (entry_limit words) (marked_texts body marks bundle) []) bundle ws (entry_limit words) r
        → BundleGathered (gather_highest tag bundle words) bundle ws (entry_limit words) r
    unfolding gather_highest highest_texts revision_text
    highest-gathered l marks m body at r g =
        let missing = first.missing (omega (arith, c.count)) in
        let same : marked_texts body marks bundle ≡ highest_texts bundle =
        rw at (choose_agree (is_marked marks) (is_highest bundle) (text_from (8 + 16 * text_count bundle) bundle) (revision_text bundle) 0 (text_count bundle)
        (λ k lo hi. m k (omega arith)) (λ k lo hi marked. refl)) in
        rw (well, missing) (rw same at g)

pub ill_refused : (tag : Kind → Bytes) (bundle : Bytes) (words : ℕ) (ws : List ℕ) (b : Bool) → b ≡ well_formed_revisions bundle → b ≡ false → (q : Refusal)
    → q ≡ unplaced MalformedBundle → BundleGathered (gather_highest tag bundle words) bundle ws (entry_limit words) (Err q)
unfolding gather_highest
ill_refused tag bundle words ws b is h q e =
    let ill : well_formed_revisions bundle ≡ false = sym is ∙ h in
    record { is = rw (ill, e); held = tt }
