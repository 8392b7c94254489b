-- The texts of the labs that are let in, gathered together. Assumes nothing.
use Prim.Native.Nat.{ℕ, ◌+◌, ◌*◌, ◌-◌, ◌≤◌, ◌<◌}
use native.Mathlib.Omega.{arith}
use mathlib.Core.Path.{◌≡◌, refl, sym, ◌∙◌}
use mathlib.Core.Bool.{Bool, true, false}
use mathlib.Core.List.{List, []}
use lib.Dec.{leb}
use lib.ListN.{length}
use borrow.Author.Tests.{le-leb, lt-leb}
use Rattle.model.specs.declared.Kind.{Kind}
use Rattle.model.specs.declared.Fault.TheVariants.{MalformedBundle, MalformedLabs}
use Rattle.model.specs.declared.Mode.TheVariants.{Checked}
use Rattle.model.specs.declared.Refusal.{Refusal}
use Rattle.model.specs.Bytes.{Bytes}
use Rattle.model.specs.Limits.{max_labs}
use Rattle.model.specs.Answer.{unplaced}
use Rattle.model.specs.Output.{written, output_after}
use Rattle.model.specs.Bundle.{text_count, text_at, well_formed}
use Rattle.model.specs.Gather.{entry_limit, gather_texts}
use Rattle.text_choice.specs.Choice.{choose_texts}
use Rattle.text_choice.specs.Quotas.{is_lab, are_labs, lab_at, is_in_text, let_in_texts, gather_quotas, marks_after}
use Rattle.text_choice.proofs.Positions.{choose_agree}
use Rattle.format.specs.Put.{over}
use Rattle.bundle.specs.Marks.{MarkedAs}
use Rattle.std.specs.Prelude.{Result as Answered, Err}
use Rattle.joined_table.specs.Gathering.{marked_texts, BundleGathered}
use Rattle.joined_table.proofs.BundleLaws.{marked-chosen}
use Rattle.lab_quotas.specs.Labs.{mark_size, is_in_by, marks_to, gather_joint, LabsGathered}
use Rattle.lab_quotas.proofs.LabLaws.{is-a_lab, lab_least, lab_last, labs_count, labs_all}
use Rattle.lab_quotas.proofs.MarkLaws.{words_long, state_is}

-- the marked texts are those whose lab is let in
pub let_in_gathered : (tag : Kind → Bytes) (bundle : Bytes) (labs marks : List ℕ) → length labs ≡ text_count bundle → (chosen : List ℕ)
    → MarkedAs (is_in_by marks labs) (length labs) chosen → (body : ℕ) → body ≡ 8 + 8 * text_count bundle → (words : ℕ) (ws : List ℕ) (r : Answered ℕ Refusal)
    → BundleGathered (gather_texts tag Checked (entry_limit words) (marked_texts body chosen bundle) []) bundle ws (entry_limit words) r
    → BundleGathered (gather_texts tag Checked (entry_limit words) (choose_texts (is_in_by marks labs) (text_at bundle) 0 (text_count bundle)) []) bundle ws (entry_limit words) r
let_in_gathered tag bundle labs marks count chosen m body at words ws r g = rw (marked-chosen bundle (is_in_by marks labs) chosen body at (rw count at m)) at g

module _ (tag : Kind → Bytes) (bundle : Bytes) (labs quotas : List ℕ) (are : are_labs bundle labs quotas ≡ true) (words : ℕ) where
  -- by the marks' words
  joint-texts : (old marks : List ℕ) → max_labs * mark_size ≤ length old → marks ≡ over (marks_to tag (entry_limit words) bundle labs quotas max_labs) old
      → choose_texts (is_in_by marks labs) (text_at bundle) 0 (text_count bundle) ≡ let_in_texts tag (entry_limit words) bundle labs quotas
  joint-texts old marks room held =
      choose_agree (is_in_by marks labs) (is_in_text tag (entry_limit words) bundle labs quotas) (text_at bundle) (text_at bundle) 0 (text_count bundle) same (λ k lo hi chosen. refl)
    where
      same : (k : ℕ) → 0 ≤ k → k < 0 + text_count bundle → is_in_by marks labs k ≡ is_in_text tag (entry_limit words) bundle labs quotas k
      same k lo hi =
          let is : is_lab (lab_at labs k) ≡ true = is-a_lab labs k (labs_all bundle labs quotas are) (omega (arith, labs_count bundle labs quotas are)) in
          state_is tag words bundle labs quotas old room marks held (lab_at labs k) (mark_size * (lab_at labs k - 1)) (lab_least (lab_at labs k) is) (lab_last (lab_at labs k) is) refl

  pub joint-gathered : (old marks : List ℕ) → max_labs * mark_size ≤ length old → marks ≡ over (marks_to tag (entry_limit words) bundle labs quotas max_labs) old
      → (words' : ℕ) → words' ≡ words → (ws : List ℕ) (r : Answered ℕ Refusal)
      → BundleGathered (gather_texts tag Checked (entry_limit words') (choose_texts (is_in_by marks labs) (text_at bundle) 0 (text_count bundle)) []) bundle ws (entry_limit words') r
      → BundleGathered (gather_texts tag Checked (entry_limit words) (let_in_texts tag (entry_limit words) bundle labs quotas) []) bundle ws (entry_limit words) r
  joint-gathered old marks room held words' same ws r g = rw (joint-texts old marks room held) at (rw same at g)

-- ---- the call

module _ (tag : Kind → Bytes) (bundle : Bytes) (labs quotas : List ℕ) (words : ℕ) (b : Bool) (is : b ≡ well_formed bundle) where
  pub is_well : b ≡ true → well_formed bundle ≡ true
  is_well h = sym is ∙ h

  pub no_bundle : b ≡ false → (q : Refusal) → q ≡ unplaced MalformedBundle → (ws marks : List ℕ) → LabsGathered tag bundle labs quotas words ws marks marks (Err q)
  unfolding gather_joint gather_quotas marks_after
  no_bundle h q e ws marks =
      let ill : well_formed bundle ≡ false = sym is ∙ h in
      record { joint = record { is = rw (ill, e); held = tt }; marked = λ room. rw ill }

  module _ (well : b ≡ true) (d : Bool) (at : d ≡ are_labs bundle labs quotas) where
    pub no_labs : d ≡ false → (q : Refusal) → q ≡ unplaced MalformedLabs → (ws marks : List ℕ) → LabsGathered tag bundle labs quotas words ws marks marks (Err q)
    unfolding gather_joint gather_quotas marks_after
    no_labs h q e ws marks =
        let none : are_labs bundle labs quotas ≡ false = sym at ∙ h in
        record { joint = record { is = rw (is_well well, none, e); held = tt }; marked = λ room. rw (is_well well, none) }

    module _ (h : d ≡ true) where
      pub are_labs_lem : are_labs bundle labs quotas ≡ true
      are_labs_lem = sym at ∙ h

      module _ (ws : List ℕ) (r : Answered ℕ Refusal)
          (g : BundleGathered (gather_texts tag Checked (entry_limit words) (let_in_texts tag (entry_limit words) bundle labs quotas) []) bundle ws (entry_limit words) r) where
        joined : BundleGathered (gather_joint tag bundle labs quotas words) bundle ws (entry_limit words) r
        unfolding gather_joint
        joined = rw (is_well well, are_labs_lem) g

        abbrev marks-words : List ℕ
        marks-words = marks_to tag (entry_limit words) bundle labs quotas max_labs

        -- the slice holds all marks
        pub labs_marked : (marks marks' : List ℕ) → max_labs * mark_size ≤ length marks → marks' ≡ over marks-words marks
            → LabsGathered tag bundle labs quotas words ws marks marks' r
        unfolding gather_quotas marks_after written
        labs_marked marks marks' room held =
            let fits : leb (length marks-words) (length marks) ≡ true =
            le-leb (length marks-words) (length marks) (omega (arith, words_long tag words bundle labs quotas max_labs)) in
            record { joint = joined; marked = λ room. rw (is_well well, are_labs_lem, fits) held }

        -- or not
        pub labs_unmarked : (marks : List ℕ) → length marks < max_labs * mark_size → LabsGathered tag bundle labs quotas words ws marks marks r
        unfolding gather_quotas marks_after written output_after
        labs_unmarked marks short =
            let long : leb (length marks-words) (length marks) ≡ false =
            lt-leb (length marks-words) (length marks) (omega (arith, words_long tag words bundle labs quotas max_labs)) in
            record { joint = joined; marked = λ room. rw (is_well well, are_labs_lem, long) }
