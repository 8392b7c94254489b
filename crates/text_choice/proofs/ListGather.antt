-- The checked gather of a list of texts: demand 3 for the list, texts with the same contents, and which text a refusal names. Assumes nothing.
use Prim.Native.Nat.{ℕ, zero, suc, ◌+◌, ◌≤◌, ◌<◌}
use native.Mathlib.Omega.{arith}
use mathlib.Core.Path.{◌≡◌, refl, sym, ap, ◌∙◌}
use mathlib.Core.Logic.{◌⊎◌, inl, inr}
use mathlib.Core.Bool.{Bool, true, false}
use mathlib.Core.List.{List, []}
use lib.ListN.{length}
use Rattle.ordmap.specs.Result.{bind, value}
use Rattle.ordmap.proofs.Results.{not_refused, refused_inj, bind-accepted, bind-refused, value-bind}
use Rattle.model.specs.declared.Kind.{Kind}
use Rattle.model.specs.declared.Mode.TheVariants.{Checked}
use Rattle.model.specs.declared.Refusal.{Refusal}
use Rattle.model.specs.Bytes.{Bytes}
use Rattle.model.specs.Answer.{Answer, accepted, refused, in_text}
use Rattle.model.specs.Tags.{Lawful}
use Rattle.model.specs.Report.{Report}
use Rattle.model.specs.Reading.{read_text}
use Rattle.model.specs.Output.{written}
use Rattle.model.specs.Printing.{print_report}
use Rattle.model.specs.Bundle.{Text, contents, well_formed, texts}
use Rattle.model.specs.Gather.{entry_limit, read_and_print, gather_text, gather_texts, gather_many, gather}
use Rattle.model.specs.Groups.{texts_of}
use Rattle.model.specs.Joined.{joined_report, SameTexts}
use Rattle.model.proofs.Read.{empty_valid}
use Rattle.model.proofs.Demand.{texts-alike, written-accepted, written-fits, gather-texts, gathered-valid, texts-exactly, texts-order, print_back}
use Rattle.text_choice.specs.Choice.{choose_texts, AcceptableTexts, RefusedText, SpelledOnce}
use Rattle.text_choice.proofs.Positions.{choose_next, choose_past, choose_none}

text-refused : {A : Type 0} (i : ℕ) (x : Answer A) {r : Refusal} → in_text i x ≡ refused r → r.text ≡ i
text-refused i (accepted a) p = absurd (not_refused p)
text-refused i (refused q) p = sym (ap (λ (s : Refusal). s.text) (refused_inj p))

module _ (tag : Kind → Bytes) where
  next : ℕ → Report → Answer Bytes
  next room report = written room (print_report tag report)

  -- lists whose reports are gathered alike
  list_alike : (ts us : List Text) (words words' room : ℕ) → entry_limit words' ≡ entry_limit words
      → value (gather_texts tag Checked (entry_limit words) ts []) ≡ value (gather_texts tag Checked (entry_limit words) us [])
      → value (gather_many tag Checked ts words room) ≡ value (gather_many tag Checked us words' room)
  unfolding next
  list_alike ts us words words' room l h =
      value-bind (gather_texts tag Checked (entry_limit words) ts []) (gather_texts tag Checked (entry_limit words) us []) (next room) h
      ∙ ap (λ (n : ℕ). value (bind (gather_texts tag Checked n us []) (next room))) (sym l)

  -- CONTENTS: the indexes of texts do not count
  pub list_contents : (ts us : List Text) (words words' room : ℕ) → entry_limit words' ≡ entry_limit words → contents ts ≡ contents us
      → value (gather_many tag Checked ts words room) ≡ value (gather_many tag Checked us words' room)
  list_contents ts us words words' room l e =
      list_alike ts us words words' room l (texts-alike tag Checked (entry_limit words) ts us [] e)

  -- a bundle that has exactly the texts
  pub list_part : (ts : List Text) (part : Bytes) (words words' room : ℕ) → well_formed part ≡ true → texts_of part ≡ contents ts
      → entry_limit words' ≡ entry_limit words
      → value (gather_many tag Checked ts words room) ≡ value (gather tag Checked part words' room)
  list_part ts part words words' room w e l =
      list_contents ts (texts part) words words' room l (sym e) ∙ ap value (sym (gather-texts tag Checked part words' room w))

  -- ORDER: the same texts in another order
  pub list_order : (ts us : List Text) (words words' room : ℕ) → entry_limit words' ≡ entry_limit words → SameTexts ts us → SpelledOnce tag words ts
      → value (gather_many tag Checked ts words room) ≡ value (gather_many tag Checked us words' room)
  list_order ts us words words' room l s o = list_alike ts us words words' room l (texts-order tag (entry_limit words) ts us s o)

  -- EXACTLY: what is written, and when
  pub list_writes : (ts : List Text) (words room : ℕ) (reports : List Report) → AcceptableTexts tag ts words room reports
      → gather_many tag Checked ts words room ≡ accepted (print_report tag (joined_report reports))
  unfolding next
  list_writes ts words room rs A =
      ap (λ (r : Answer Report). bind r (next room)) ((texts-exactly tag (entry_limit words) ts (joined_report rs)).1 (rs, A.gatherable, refl))
      ∙ written-fits room (print_report tag (joined_report rs)) A.within_room

  pub list_acceptable : (ts : List Text) (words room : ℕ) {bytes : Bytes} → gather_many tag Checked ts words room ≡ accepted bytes
      → (reports : List Report) × AcceptableTexts tag ts words room reports
  list_acceptable ts words room p =
      let (n, g, q) = bind-accepted (gather_texts tag Checked (entry_limit words) ts []) _ p in
      let (f, h) = written-accepted room (print_report tag n) q in
      let (rs, G, e) = (texts-exactly tag (entry_limit words) ts n).0 g in
      (rs, record { gatherable = G; within_room = rw (← e) h })

  -- ---- the text that is refused

  module _ (isChosen : ℕ → Bool) (text_at : ℕ → Text) (at-index : (i : ℕ) → (text_at i).index ≡ i) (limit : ℕ) where
    abbrev gathered : ℕ → ℕ → Report → Answer Report
    gathered a n m = gather_texts tag Checked limit (choose_texts isChosen text_at a n) m

    abbrev first : ℕ → Report → Answer Report
    first a m = in_text a (gather_text tag Checked limit (text_at a).bytes m)

    -- a loop's step: a text that is chosen is gathered, another is passed over
    pub gathered_next : (a n : ℕ) (m : Report) → isChosen a ≡ true → gathered a (suc n) m ≡ bind (first a m) (λ report. gathered (suc a) n report)
    unfolding gather_texts
    gathered_next a n m e =
        ap (λ (ts : List Text). gather_texts tag Checked limit ts m) (choose_next isChosen text_at a n e)
        ∙ ap (λ (i : ℕ). bind (in_text i (gather_text tag Checked limit (text_at a).bytes m)) (λ report. gathered (suc a) n report)) (at-index a)

    pub gathered-past : (a n : ℕ) (m : Report) → isChosen a ≡ false → gathered a (suc n) m ≡ gathered (suc a) n m
    gathered-past a n m e = ap (λ (ts : List Text). gather_texts tag Checked limit ts m) (choose_past isChosen text_at a n e)

    -- the text a + past, one of n from the a-th on: those chosen before it are joined to m
    record RefusedFrom (a n : ℕ) (m : Report) (r : Refusal) : Type 0 where
      past : ℕ
      inside : past < n
      is-text : r.text ≡ a + past
      is_chosen : isChosen r.text ≡ true
      into : Report
      joined : gathered a past m ≡ accepted into
      refuses : first r.text into ≡ refused r

    -- the texts from a + 1 on, where a leaves the report j
    later : (a n : ℕ) (m j : Report) (r : Refusal) → ((k : ℕ) → gathered a (suc k) m ≡ gathered (suc a) k j) → RefusedFrom (suc a) n j r
        → RefusedFrom a (suc n) m r
    later a n m j r step R =
        record {
          past = suc R.past;
          inside = omega (arith, R.inside);
          is-text = omega (arith, R.is-text);
          is_chosen = R.is_chosen;
          into = R.into;
          joined = step R.past ∙ R.joined;
          refuses = R.refuses;
        }

    refused-from : (a n : ℕ) (m : Report) (r : Refusal) → gathered a n m ≡ refused r → RefusedFrom a n m r
    unfolding gather_texts
    refused-from a zero m r p =
        absurd (not_refused (sym (ap (λ (ts : List Text). gather_texts tag Checked limit ts m) (choose_none isChosen text_at a)) ∙ p))
    refused-from a (suc n) m r p = go (isChosen a) refl (λ j q. refused-from (suc a) n j r q)
      where
        go : (b : Bool) → isChosen a ≡ b → ((j : Report) → gathered (suc a) n j ≡ refused r → RefusedFrom (suc a) n j r) → RefusedFrom a (suc n) m r
        go true e ih = at (bind-refused (first a m) (λ report. gathered (suc a) n report) (sym (gathered_next a n m e) ∙ p))
          where
            at : (first a m ≡ refused r) ⊎ ((j : Report) × (first a m ≡ accepted j) × (gathered (suc a) n j ≡ refused r)) → RefusedFrom a (suc n) m r
            at (inl q) =
                let here : r.text ≡ a = text-refused a (gather_text tag Checked limit (text_at a).bytes m) q in
                record {
                  past = 0;
                  inside = omega arith;
                  is-text = omega arith;
                  is_chosen = ap isChosen here ∙ e;
                  into = m;
                  joined = ap (λ (ts : List Text). gather_texts tag Checked limit ts m) (choose_none isChosen text_at a);
                  refuses = ap (λ (i : ℕ). first i m) here ∙ q;
                }
            at (inr (j, q, s)) =
                later a n m j r
                (λ k. gathered_next a k m e ∙ ap (λ (x : Answer Report). bind x (λ report. gathered (suc a) k report)) q) (ih j s)
        go false e ih = later a n m m r (λ k. gathered-past a k m e) (ih m (sym (gathered-past a n m e) ∙ p))

    -- NAMED: a refusal has the index of a chosen text
    pub refused_text : (n : ℕ) (r : Refusal) → gather_texts tag Checked limit (choose_texts isChosen text_at 0 n) [] ≡ refused r
        → (r.text < n) × RefusedText tag isChosen text_at limit r.text r
    refused_text n r p =
        let R : RefusedFrom 0 n [] r = refused-from 0 n [] r p in
        let here : R.past ≡ r.text = omega (arith, R.is-text) in (
          omega (arith, R.inside, R.is-text),
          record {
            is_chosen = R.is_chosen;
            into = R.into;
            joined = ap (λ (i : ℕ). gather_texts tag Checked limit (choose_texts isChosen text_at 0 i) []) (sym here) ∙ R.joined;
            refuses = R.refuses;
          },
        )

  module _ (L : Lawful tag) where
    pub list_back : (ts : List Text) (words room : ℕ) (reports : List Report) → AcceptableTexts tag ts words room reports
        → (bytes : Bytes) → bytes ≡ print_report tag (joined_report reports)
        → (words' room' : ℕ) → entry_limit words' ≡ entry_limit words → length bytes ≤ room'
        → (read_text tag (entry_limit words') bytes ≡ accepted (joined_report reports)) × (read_and_print tag bytes words' room' ≡ accepted bytes)
    list_back ts words room rs A bytes e words' room' l h =
        let g : gather_texts tag Checked (entry_limit words) ts [] ≡ accepted (joined_report rs) =
        (texts-exactly tag (entry_limit words) ts (joined_report rs)).1 (rs, A.gatherable, refl) in
        let (N, i) = gathered-valid tag Checked (entry_limit words) ts [] (joined_report rs) empty_valid (omega arith) g in
        print_back tag L (entry_limit words) (joined_report rs) N i (omega arith) bytes e words' room' l h
