-- Request N4, proved of the definitions, for every lawful table of tags. Assumes nothing.
use Prim.Native.Nat.{ℕ, ◌<◌}
use native.Mathlib.Omega.{arith}
use mathlib.Core.Path.{◌≡◌, refl, sym, ap, ◌∙◌}
use mathlib.Core.Logic.{◌↔◌}
use mathlib.Core.Bool.{Bool, true, false}
use mathlib.Core.List.Permᴰ.{symm as p-symm}
use mathlib.Core.List.{List, [], Permᴰ as Perm}
use mathlib.Core.Option.{Option, none, some}
use lib.Dec.{leb, eqb}
use Rattle.ordmap.specs.Result.{value, IsAccepted}
use Rattle.ordmap.proofs.Results.{not_accepted, is_accepted, accepted-is}
use Rattle.ordmap.proofs.Maps.{some≢none}
use Rattle.model.specs.declared.Fault.TheVariants.{MalformedBundle, RepeatedRevision}
use Rattle.model.specs.declared.Kind.{Kind}
use Rattle.model.specs.declared.Mode.TheVariants.{Checked}
use Rattle.std.specs.Prelude.{if◌then◌else◌}
use Rattle.model.specs.Lists.{all, from}
use Rattle.model.specs.Bytes.{Bytes}
use Rattle.model.specs.Answer.{Answer, accepted, ◌>>=◌, refuse, in_text}
use Rattle.model.specs.Tags.{default_tag, Lawful}
use Rattle.model.specs.TagTable.{load_tags}
use Rattle.model.specs.Report.{Report}
use Rattle.model.specs.Printing.{print_report}
use Rattle.model.specs.Output.{written}
use Rattle.model.specs.Bundle.{text_count, Text, contents}
use Rattle.model.specs.Gather.{entry_limit, gather_texts, gather_many}
use Rattle.model.specs.Joined.{joined_report, SameTexts}
use Rattle.model.proofs.TagLaws.{default_tag_lawful}
use Rattle.model.proofs.TagTableLaws.{loads_lawful}
use Rattle.text_choice.specs.Choice.{choose_texts, SameLabelled}
use Rattle.text_choice.specs.RevisionBundle.{
  well_formed_revisions,
  run_at,
  revision_at,
  revision_text,
  is_highest,
  highest_texts,
  pair_at,
  same_pair,
  paired_texts,
  is_repeat,
  first_of,
  first_repeat,
}
use Rattle.text_choice.specs.Revisions.{SameChosen, gather_highest, gather_revisions, AcceptableRevisions, RevisionsClaim}
use Rattle.text_choice.proofs.Positions.{all-agree, any-agree, first-agree, choose_agree}
use Rattle.text_choice.proofs.Choice.{labels_perm, chosen-same}
use Rattle.text_choice.proofs.ListGather.{list_contents, list_part, list_order, list_writes, list_acceptable, list_back, refused_text}
use Rattle.text_choice.proofs.RevisionLaws.{text-index, pair_same, first_repeat_lem, no_repeat, one_of_run, pairs, highest_among, highest_among_lem, highest_perm, no_repeat_perm}

-- ---- other contents where no text is chosen

module _ (a b : Bytes) (s : SameChosen a b) where
  chosen_repeat : first_repeat a ≡ first_repeat b
  unfolding first_repeat is_repeat
  chosen_repeat =
      first-agree (is_repeat a) (is_repeat b) 0 (text_count a)
      (λ i l m. any-agree (λ j. same_pair (pair_at a j) (pair_at a i)) (λ j. same_pair (pair_at b j) (pair_at b i)) 0 i
      (λ j u v. rw (s.same_run j (omega arith), s.same_run i (omega arith), s.same_revision j (omega arith), s.same_revision i (omega arith))))
      ∙ ap (λ (n : ℕ). first_of (is_repeat b) (from 0 n)) s.same_count

  chosen-test : (i : ℕ) → i < text_count a → is_highest a i ≡ is_highest b i
  unfolding is_highest
  chosen-test i l =
      all-agree (λ j. if eqb (run_at a j) (run_at a i) then leb (revision_at a j) (revision_at a i) else true)
      (λ j. if eqb (run_at b j) (run_at b i) then leb (revision_at b j) (revision_at b i) else true) 0 (text_count a)
      (λ j u v. rw (s.same_run j (omega arith), s.same_run i (omega arith), s.same_revision j (omega arith), s.same_revision i (omega arith)))
      ∙ ap (λ (n : ℕ). all (λ j. if eqb (run_at b j) (run_at b i) then leb (revision_at b j) (revision_at b i) else true) (from 0 n)) s.same_count

  chosen-texts : highest_texts a ≡ highest_texts b
  unfolding highest_texts
  chosen-texts =
      choose_agree (is_highest a) (is_highest b) (revision_text a) (revision_text b) 0 (text_count a)
      (λ i l m. chosen-test i (omega arith)) (λ i l m e. s.same_text i (omega arith) e)
      ∙ ap (choose_texts (is_highest b) (revision_text b) 0) s.same_count

-- ---- the same texts in two orders

module _ (a b : Bytes) (s : SameLabelled same_pair (paired_texts a) (paired_texts b)) where
  pub pairs_perm : Perm (pairs a) (pairs b)
  pairs_perm = labels_perm same_pair pair_same (pair_at a) (pair_at b) (revision_text a) (revision_text b) (text_count a) (text_count b) s

  highest-same : SameTexts (highest_texts a) (highest_texts b)
  unfolding highest_texts
  highest-same bytes = rw (by-pair a, by-pair b) (same bytes)
    where
      by-pair : (c : Bytes) → is_highest c ≡ (λ i. highest_among (pairs c) (pair_at c i))
      by-pair c = λ k i. highest_among_lem c i k

      same : SameTexts (choose_texts (λ i. highest_among (pairs a) (pair_at a i)) (revision_text a) 0 (text_count a))
          (choose_texts (λ i. highest_among (pairs b) (pair_at b i)) (revision_text b) 0 (text_count b))
      same =
          chosen-same same_pair pair_same (pair_at a) (pair_at b) (revision_text a) (revision_text b) (text_count a) (text_count b) s
          (highest_among (pairs a)) (highest_among (pairs b)) (highest_perm a b pairs_perm)

-- ---- the call

module _ (tag : Kind → Bytes) where
  revisions_answer : (bundle : Bytes) (words room : ℕ) → well_formed_revisions bundle ≡ true → first_repeat bundle ≡ none
      → gather_revisions tag bundle words room ≡ gather_many tag Checked (highest_texts bundle) words room
  unfolding gather_revisions gather_highest
  revisions_answer bundle words room w n = rw (w, n)

  revisions_refuse : (bundle : Bytes) (words room i : ℕ) → well_formed_revisions bundle ≡ true → first_repeat bundle ≡ some i
      → gather_revisions tag bundle words room ≡ in_text i (refuse RepeatedRevision)
  unfolding gather_revisions gather_highest
  revisions_refuse bundle words room i w n = rw (w, n)

  revisions_accepted : (bundle : Bytes) (words room : ℕ) {bytes : Bytes} → gather_revisions tag bundle words room ≡ accepted bytes
      → (well_formed_revisions bundle ≡ true) × (first_repeat bundle ≡ none) × (gather_many tag Checked (highest_texts bundle) words room ≡ accepted bytes)
  unfolding gather_revisions gather_highest
  revisions_accepted bundle words room {bytes} p = go (well_formed_revisions bundle) refl (first_repeat bundle) refl p
    where
      go : (b : Bool) → well_formed_revisions bundle ≡ b → (o : Option ℕ) → first_repeat bundle ≡ o
          → ◌≡◌ {A = Answer Bytes}
          ((if b
          then elim o [ none ↦ gather_texts tag Checked (entry_limit words) (highest_texts bundle) [] | some i ↦ in_text i (refuse RepeatedRevision) ]
          else refuse MalformedBundle) >>= λ report. written room (print_report tag report)) (accepted bytes)
          → (well_formed_revisions bundle ≡ true) × (first_repeat bundle ≡ none) × (gather_many tag Checked (highest_texts bundle) words room ≡ accepted bytes)
      go true w none n q = (w, n, q)
      go true w (some i) n q = absurd (not_accepted q)
      go false w o n q = absurd (not_accepted q)

  -- EXACTLY
  revisions_write : (bundle : Bytes) (words room : ℕ) (reports : List Report) → AcceptableRevisions tag bundle words room reports
      → gather_revisions tag bundle words room ≡ accepted (print_report tag (joined_report reports))
  revisions_write bundle words room rs A =
      revisions_answer bundle words room A.well_formed_lem A.no_repeat ∙ list_writes tag (highest_texts bundle) words room rs A.acceptable

  revisions_exactly : (bundle : Bytes) (words room : ℕ)
      → IsAccepted (gather_revisions tag bundle words room) ↔ ((reports : List Report) × AcceptableRevisions tag bundle words room reports)
  revisions_exactly bundle words room = (to, back)
    where
      to : IsAccepted (gather_revisions tag bundle words room) → (reports : List Report) × AcceptableRevisions tag bundle words room reports
      to i =
          let (bytes, p) = accepted-is (gather_revisions tag bundle words room) i in
          let (w, n, q) = revisions_accepted bundle words room p in
          let (rs, A) = list_acceptable tag (highest_texts bundle) words room q in
          (rs, record { well_formed_lem = w; no_repeat = n; acceptable = A })

      back : (reports : List Report) × AcceptableRevisions tag bundle words room reports → IsAccepted (gather_revisions tag bundle words room)
      back (rs, A) = is_accepted (revisions_write bundle words room rs A)

  -- TWO bundles: both with a repeated pair, or both with none and their chosen texts gathered alike
  alike : (a b : Bytes) (words words' room : ℕ) → well_formed_revisions a ≡ true → well_formed_revisions b ≡ true
      → (first_repeat a ≡ none → first_repeat b ≡ none) → (first_repeat b ≡ none → first_repeat a ≡ none)
      → value (gather_many tag Checked (highest_texts a) words room) ≡ value (gather_many tag Checked (highest_texts b) words' room)
      → value (gather_revisions tag a words room) ≡ value (gather_revisions tag b words' room)
  alike a b words words' room v w to back h = go (first_repeat a) refl (first_repeat b) refl
    where
      go : (o : Option ℕ) → first_repeat a ≡ o → (q : Option ℕ) → first_repeat b ≡ q
          → value (gather_revisions tag a words room) ≡ value (gather_revisions tag b words' room)
      go none m none n = ap value (revisions_answer a words room v m) ∙ h ∙ ap value (sym (revisions_answer b words' room w n))
      go none m (some k) n = absurd (some≢none (sym n ∙ to m))
      go (some i) m none n = absurd (some≢none (sym m ∙ back n))
      go (some i) m (some k) n = ap value (revisions_refuse a words room i v m) ∙ ap value (sym (revisions_refuse b words' room k w n))

  -- ANY ORDER
  order : (a b : Bytes) (words words' room : ℕ) → well_formed_revisions a ≡ true → well_formed_revisions b ≡ true
      → SameLabelled same_pair (paired_texts a) (paired_texts b)
      → value (gather_many tag Checked (highest_texts a) words room) ≡ value (gather_many tag Checked (highest_texts b) words' room)
      → value (gather_revisions tag a words room) ≡ value (gather_revisions tag b words' room)
  order a b words words' room v w s h =
      alike a b words words' room v w (no_repeat_perm a b (pairs_perm a b s)) (no_repeat_perm b a (p-symm (pairs_perm a b s))) h

  unread : (a b : Bytes) (words room : ℕ) → well_formed_revisions a ≡ true → well_formed_revisions b ≡ true → SameChosen a b
      → gather_revisions tag a words room ≡ gather_revisions tag b words room
  unfolding gather_revisions gather_highest
  unread a b words room v w s = rw (v, w) (λ k. answer (chosen_repeat a b s k) (chosen-texts a b s k))
    where
      answer : Option ℕ → List Text → Answer Bytes
      answer repeat texts =
          elim repeat [ none ↦ gather_texts tag Checked (entry_limit words) texts [] | some i ↦ in_text i (refuse RepeatedRevision) ]
          >>= λ report. written room (print_report tag report)

  -- N4
  pub revisions : Lawful tag → RevisionsClaim tag
  unfolding highest_texts
  revisions L =
      record {
        one_each = one_of_run;
        repeats = λ bundle words room i w F. revisions_refuse bundle words room i w ((first_repeat_lem bundle i).1 F);
        no_repeats = no_repeat;
        answers = revisions_answer;
        accepts = revisions_exactly;
        writes = revisions_write;
        reads_back = λ bundle words room rs A. list_back tag L (highest_texts bundle) words room rs A.acceptable;
        refused_text = λ bundle limit r p. refused_text tag (is_highest bundle) (revision_text bundle) (text-index bundle) limit (text_count bundle) r p;
        as_gathered = λ bundle part words words' room w n v e l.
            ap value (revisions_answer bundle words room w n) ∙ list_part tag (highest_texts bundle) part words words' room v e l;
        any_order = λ a b words words' room v w s l o.
            order a b words words' room v w s (list_order tag (highest_texts a) (highest_texts b) words words' room l (highest-same a b s) o);
        moved = λ a b words words' room v w s l e.
            order a b words words' room v w s (list_contents tag (highest_texts a) (highest_texts b) words words' room l e);
        rest = λ a b words words' room v w m n l e.
            alike a b words words' room v w (λ z. n) (λ z. m) (list_contents tag (highest_texts a) (highest_texts b) words words' room l e);
        unread = unread;
      }

-- N4 under every table of tags that loads
pub revisions_loaded : (table : Bytes) (tag : Kind → Bytes) → load_tags table ≡ accepted tag → RevisionsClaim tag
revisions_loaded table tag loads = revisions tag (loads_lawful table tag loads)

-- N4 under the tags of `RecordKind::as_str`
pub revisions_default : RevisionsClaim default_tag
revisions_default = revisions default_tag default_tag_lawful
