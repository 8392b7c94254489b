-- The texts of a lab gathered by themselves: the gather over the whole bundle, with the lab's own text indexes. Assumes nothing.
use Prim.Native.Nat.{ℕ, zero, suc, ◌+◌, ◌*◌, ◌<◌}
use mathlib.Core.Path.{◌≡◌, refl, sym, ap, ◌∙◌}
use mathlib.Core.Bool.{Bool, true, false}
use mathlib.Core.List.{List, [], ◌∷◌}
use lib.ListN.{length}
use Rattle.ordmap.specs.Result.{bind, map_accepted}
use Rattle.ordmap.specs.Gathering.{map_refused}
use Rattle.model.specs.declared.Kind.{Kind}
use Rattle.model.specs.declared.Mode.TheVariants.{Checked}
use Rattle.model.specs.declared.Refusal.{Refusal}
use Rattle.std.specs.Prelude.{if◌then◌else◌}
use Rattle.model.specs.Bytes.{Bytes}
use Rattle.model.specs.Answer.{Answer, accepted, refused, in_text}
use Rattle.model.specs.Report.{Report}
use Rattle.model.specs.Bundle.{Text, contents, text_count, text_at}
use Rattle.model.specs.Gather.{entry_limit, gather_text, gather_texts}
use Rattle.text_choice.specs.declared.Mark.{Mark}
use Rattle.text_choice.specs.declared.Mark.TheVariants.{RefusedLab}
use Rattle.text_choice.specs.Choice.{choose_texts}
use Rattle.text_choice.specs.Quotas.{lab_contents, numbered, marked, mark_of}
use Rattle.text_choice.proofs.Positions.{choose_none, choose_next, choose_past}
use Rattle.text_choice.proofs.ListGather.{refused_text}
use Rattle.bundle.specs.Marks.{MarkedAs}
use Rattle.table.proofs.TabulateLaws.{length-tabulate}
use Rattle.table_section.specs.Sections.{entry_at, entries_at}
use Rattle.scratch_layout.specs.Layout.{index_at}
use Rattle.std.specs.Prelude.{Result as Answered, Ok, Err}
use Rattle.joined_table.specs.Gathering.{in_text_of, marked_texts, BundleGathered}
use Rattle.joined_table.proofs.BundleLaws.{marked-chosen}
use Rattle.lab_quotas.specs.Labs.{is_of_lab, rank_of, lab_mark}

-- ---- other text indexes

-- the k-th text and those behind it have these indexes
Ranked : (ℕ → ℕ) → ℕ → List Text → Type 0
Ranked rank k [] = Unit {0}
Ranked rank k (t ∷ ts) = (rank t.index ≡ k) × Ranked rank (suc k) ts

renamed : (ℕ → ℕ) → Refusal → Refusal
renamed rank r = in_text_of (rank r.text) r

gather_ranked : (tag : Kind → Bytes) (limit : ℕ) (rank : ℕ → ℕ) (ts : List Text) (k : ℕ) (m : Report) → Ranked rank k ts
    → gather_texts tag Checked limit (numbered k (contents ts)) m ≡ map_refused (renamed rank) (gather_texts tag Checked limit ts m)
unfolding gather_texts numbered Ranked renamed
gather_ranked tag limit rank [] k m R = refl
gather_ranked tag limit rank (t ∷ ts) k m (e, R) = go (gather_text tag Checked limit t.bytes m) (λ j. gather_ranked tag limit rank ts (suc k) j R)
  where
    go : (r : Answer Report)
        → ((j : Report) → gather_texts tag Checked limit (numbered (suc k) (contents ts)) j ≡ map_refused (renamed rank) (gather_texts tag Checked limit ts j))
        → bind (in_text k r) (λ j. gather_texts tag Checked limit (numbered (suc k) (contents ts)) j)
        ≡ map_refused (renamed rank) (bind (in_text t.index r) (λ j. gather_texts tag Checked limit ts j))
    go (accepted j) ih = ih j
    go (refused c) ih = ap (λ (i : ℕ). refused (in_text_of i c)) (sym e)

-- chosen texts, by how many are chosen before them
choose_ranked : (test : ℕ → Bool) (text_at : ℕ → Text) → ((i : ℕ) → (text_at i).index ≡ i) → (a n : ℕ)
    → Ranked (rank_of test) (rank_of test a) (choose_texts test text_at a n)
unfolding rank_of Ranked
choose_ranked test text_at at-index a zero = rw (choose_none test text_at a) tt
choose_ranked test text_at at-index a (suc n) = go (test a) refl (choose_ranked test text_at at-index (suc a) n)
  where
    go : (b : Bool) → test a ≡ b → Ranked (rank_of test) (if test a then suc (rank_of test a) else rank_of test a) (choose_texts test text_at (suc a) n)
        → Ranked (rank_of test) (rank_of test a) (choose_texts test text_at a (suc n))
    go true e ih = rw (choose_next test text_at a n e) (ap (rank_of test) (at-index a), rw e at ih)
    go false e ih = rw (choose_past test text_at a n e) (rw e at ih)

-- ---- a lab

text-index : (bundle : Bytes) (i : ℕ) → (text_at bundle i).index ≡ i
unfolding text_at
text-index bundle i = refl

module _ (tag : Kind → Bytes) (bundle : Bytes) (labs : List ℕ) (count : length labs ≡ text_count bundle) (lab words : ℕ) where
  abbrev whole : Answer Report
  whole = gather_texts tag Checked (entry_limit words) (choose_texts (is_of_lab labs lab) (text_at bundle) 0 (text_count bundle)) []

  lab_ranked : gather_texts tag Checked (entry_limit words) (numbered 0 (lab_contents bundle labs lab)) [] ≡ map_refused (renamed (rank_of (is_of_lab labs lab))) whole
  unfolding lab_contents rank_of
  lab_ranked =
      gather_ranked tag (entry_limit words) (rank_of (is_of_lab labs lab)) (choose_texts (is_of_lab labs lab) (text_at bundle) 0 (text_count bundle)) 0 []
      (choose_ranked (is_of_lab labs lab) (text_at bundle) (text-index bundle) 0 (text_count bundle))

  mark_is : (quota : ℕ)
      → mark_of tag (entry_limit words) quota (lab_contents bundle labs lab) ≡ marked quota (map_accepted length (map_refused (renamed (rank_of (is_of_lab labs lab))) whole))
  unfolding mark_of
  mark_is quota = ap (λ (a : Answer Report). marked quota (map_accepted length a)) lab_ranked

  -- the marked texts are gathered, with this answer
  module _ (marks : List ℕ) (body : ℕ) (at : body ≡ 8 + 8 * text_count bundle) (chosen : MarkedAs (is_of_lab labs lab) (length labs) marks) (ws : List ℕ) (got : Answered ℕ Refusal)
      (g : BundleGathered (gather_texts tag Checked (entry_limit words) (marked_texts body marks bundle) []) bundle ws (entry_limit words) got) where
    gathered : BundleGathered whole bundle ws (entry_limit words) got
    gathered = rw (marked-chosen bundle (is_of_lab labs lab) marks body at (rw count at chosen)) at g

    module _ (q : Refusal) (e : got ≡ Err q) where
      lab_refused : whole ≡ refused q
      lab_refused = sym (rw e at gathered.is)

      pub refused-inside : q.text < length labs
      refused-inside = rw count (refused_text tag (is_of_lab labs lab) (text_at bundle) (text-index bundle) (entry_limit words) (text_count bundle) q lab_refused).0

      pub mark_refused : (quota : ℕ) (r : Refusal) → r ≡ in_text_of (rank_of (is_of_lab labs lab) q.text) q
          → RefusedLab r ≡ mark_of tag (entry_limit words) quota (lab_contents bundle labs lab)
      unfolding renamed
      mark_refused quota r h = ap RefusedLab h ∙ sym (mark_is quota ∙ rw lab_refused)

    pub mark_counted : (n : ℕ) → got ≡ Ok n → (quota : ℕ) (r : Mark) → r ≡ lab_mark quota n
        → r ≡ mark_of tag (entry_limit words) quota (lab_contents bundle labs lab)
    mark_counted n e quota r h =
        let is : accepted (entries_at bundle ws (index_at (entry_limit words)) n) ≡ whole = rw e at gathered.is in
        h ∙ ap (lab_mark quota) (sym (length-tabulate (entry_at bundle ws (index_at (entry_limit words))) n)) ∙ sym (mark_is quota ∙ rw (← is))
