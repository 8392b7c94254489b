-- A bundle gathered: the joined table in all of the words. Assumes nothing.
use Prim.Native.Nat.{ℕ, ◌+◌, ◌*◌, ◌≤◌}
use native.Mathlib.Omega.{arith}
use mathlib.Core.Path.{◌≡◌, refl, sym, ap, subst, ◌∙◌}
use mathlib.Core.Bool.{Bool, true, false}
use mathlib.Core.List.{List, [], ◌∷◌, ◌++◌, map}
use lib.ListN.{length, take, drop, take-append-drop}
use Rattle.model.specs.declared.Kind.{Kind}
use Rattle.model.specs.declared.Fault.TheVariants.{MalformedBundle}
use Rattle.model.specs.declared.Mode.{Mode}
use Rattle.model.specs.declared.Refusal.{Refusal}
use Rattle.model.specs.Bytes.{Bytes}
use Rattle.model.specs.Answer.{Answer, accepted, unplaced}
use Rattle.model.specs.Report.{Report}
use Rattle.model.specs.Limits.{max_texts}
use Rattle.model.specs.Lists.{from}
use Rattle.model.specs.Bundle.{Text, well_formed, text_count, text_at, texts}
use Rattle.model.proofs.ListLaws.{All, select_all}
use Rattle.text_choice.specs.Choice.{choose_texts}
use Rattle.text_choice.proofs.Positions.{choose_agree}
use Rattle.bundle.specs.Marks.{is_marked, MarkedAs}
use Rattle.bundle.specs.Places.{text_from, TextsInside}
use Rattle.bundle.proofs.BundleLaws.{well_sized, well_few, well_inside}
use Rattle.model.specs.Gather.{entry_limit, gather_texts, gather_bundle}
use Rattle.table_section.specs.Sections.{entries_at}
use Rattle.section.specs.Table.{Table}
use Rattle.scratch_layout.specs.Layout.{index_at, base_at}
use Rattle.std.specs.Prelude.{Result as Answered, Ok, Err}
use Rattle.joined_table.specs.Gathering.{marked_texts, GatheredAs, BundleGathered}
use Rattle.joined_table.proofs.TableLaws.{entries_wider, table_wider}

-- the joined table is in front of words that go on
pub in_words : (answer : Answer Report) (text ws : List ℕ) (limit : ℕ) (r : Answered ℕ Refusal) → GatheredAs answer text ws limit r → BundleGathered answer text ws limit r
in_words answer text ws limit (Err q) g = record { is = g.is; held = tt }
in_words answer text ws limit (Ok n) g =
    let front = take (base_at limit) ws in
    let behind = drop (base_at limit) ws in
    let parts : front ++ behind ≡ ws = take-append-drop (base_at limit) ws in
    let entries : entries_at text ws (index_at limit) n ≡ entries_at text front (index_at limit) n
    = subst (λ (us : List ℕ). entries_at text us (index_at limit) n ≡ entries_at text front (index_at limit) n) parts
    (entries_wider text front behind (index_at limit) n n g.held.table) in
    record {
      is = ap (λ (report : Report). accepted report) entries ∙ g.is;
      held = (
        subst (λ (us : List ℕ). Table text us (index_at limit) n n) parts (table_wider text front behind (index_at limit) n n g.held.table),
        g.held.most,
      );
    }

-- the limit is that of the scratch
pub marked-gathered : (tag : Kind → Bytes) (mode : Mode) (texts : List Text) (bundle : Bytes) (words limit : ℕ) (ws : List ℕ) (r : Answered ℕ Refusal) → limit ≡ entry_limit words
    → GatheredAs (gather_texts tag mode limit texts []) bundle ws limit r
    → BundleGathered (gather_texts tag mode (entry_limit words) texts []) bundle ws (entry_limit words) r
marked-gathered tag mode texts bundle words limit ws r e g = in_words _ bundle ws (entry_limit words) r (rw e at g)

-- with no marks, all texts
all-marked : (bundle : Bytes) → marked_texts (8 + 8 * text_count bundle) [] bundle ≡ texts bundle
unfolding choose_texts texts text_at
all-marked bundle = ap (map (text_at bundle)) (select_all (is_marked []) (from 0 (text_count bundle)) (every (from 0 (text_count bundle))))
  where
    every : (l : List ℕ) → All (λ i. is_marked [] i ≡ true) l
    every [] = tt
    every (x ∷ l) = (refl, every l)

-- with marks, those that pass the test
pub marked-chosen : (bundle : Bytes) (test : ℕ → Bool) (marks : List ℕ) (body : ℕ) → body ≡ 8 + 8 * text_count bundle → MarkedAs test (text_count bundle) marks
    → marked_texts body marks bundle ≡ choose_texts test (text_at bundle) 0 (text_count bundle)
unfolding text_at
marked-chosen bundle test marks body at m =
    rw at (choose_agree (is_marked marks) test (text_from (8 + 8 * text_count bundle) bundle) (text_at bundle) 0 (text_count bundle)
    (λ k lo hi. m k (omega arith)) (λ k lo hi marked. refl))

module _ (bundle : Bytes) (well : well_formed bundle ≡ true) where
  pub few-texts : (n : ℕ) → n ≡ text_count bundle → n ≤ max_texts
  few-texts n e = rw e (well_few bundle well)

  pub texts-inside : (body : ℕ) → body ≡ 8 + 8 * text_count bundle → TextsInside bundle body
  texts-inside body at = rw at (well_inside bundle well)

module _ (bundle : Bytes) (b : Bool) (is : b ≡ well_formed bundle) where
  well : b ≡ true → well_formed bundle ≡ true
  well h = sym is ∙ h

  pub bundle_sized : b ≡ true → 8 ≤ length bundle
  bundle_sized h = well_sized bundle (well h)

  pub bundle-few : b ≡ true → text_count bundle ≤ max_texts
  bundle-few h = well_few bundle (well h)

  pub bundle-inside : b ≡ true → (body : ℕ) → body ≡ 8 + 8 * text_count bundle → TextsInside bundle body
  bundle-inside h = texts-inside bundle (well h)

  module _ (tag : Kind → Bytes) (mode : Mode) (words : ℕ) (ws : List ℕ) where
    pub bundle-gathered : b ≡ true → (body : ℕ) → body ≡ 8 + 8 * text_count bundle → (r : Answered ℕ Refusal)
        → BundleGathered (gather_texts tag mode (entry_limit words) (marked_texts body [] bundle) []) bundle ws (entry_limit words) r
        → BundleGathered (gather_bundle tag mode bundle words) bundle ws (entry_limit words) r
    unfolding gather_bundle
    bundle-gathered h body at r g =
        let same : marked_texts body [] bundle ≡ texts bundle = ap (λ (k : ℕ). marked_texts k [] bundle) at ∙ all-marked bundle in
        rw (well h) (rw same at g)

    pub bundle-refused : b ≡ false → (q : Refusal) → q ≡ unplaced MalformedBundle
        → BundleGathered (gather_bundle tag mode bundle words) bundle ws (entry_limit words) (Err q)
    unfolding gather_bundle
    bundle-refused h q e =
        let ill : well_formed bundle ≡ false = sym is ∙ h in
        record { is = rw (ill, e); held = tt }
