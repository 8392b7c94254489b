-- Texts gathered in rounds, proved of the definitions for both modes and every lawful table of tags. Assumes nothing.
use Prim.Native.Nat.{ℕ, ◌≤◌}
use native.Mathlib.Omega.{arith}
use mathlib.Core.Path.{◌≡◌, refl, sym, ap, ◌∙◌}
use mathlib.Core.Logic.{◌⊎◌, inl, inr}
use mathlib.Core.Bool.{Bool, true, false}
use mathlib.Core.List.{List, [], ◌∷◌, ◌++◌, map, map-append, append_assoc}
use lib.Dec.{leb}
use lib.ListN.{length}
use borrow.Author.Tests.{le-leb}
use Rattle.ordmap.specs.Result.{bind, value, IsAccepted}
use Rattle.ordmap.proofs.Results.{
  impossible,
  not_refused,
  is_accepted,
  accepted-is,
  value-accepted,
  bind-next,
  bind-accepted,
  bind-refused,
  value-bind,
  bind_assoc,
}
use Rattle.model.specs.declared.Fault.TheVariants.{OutputTooShort}
use Rattle.model.specs.declared.Kind.{Kind}
use Rattle.model.specs.declared.Mode.{Mode}
use Rattle.model.specs.declared.Refusal.{Refusal}
use Rattle.std.specs.Prelude.{if◌then◌else◌}
use Rattle.model.specs.Bytes.{Bytes}
use Rattle.model.specs.Answer.{Answer, accepted, refused, refuse_length, in_text}
use Rattle.model.specs.Limits.{u32_max}
use Rattle.model.specs.Tags.{default_tag, Lawful}
use Rattle.model.specs.Report.{Report}
use Rattle.model.specs.Output.{written}
use Rattle.model.specs.Printing.{print_report}
use Rattle.model.specs.Bundle.{Text, contents, well_formed, texts}
use Rattle.model.specs.Gather.{entry_limit, gather_text, gather_texts, gather_many, gather}
use Rattle.model.proofs.TagLaws.{default_tag_lawful}
use Rattle.model.proofs.Read.{empty_valid}
use Rattle.model.proofs.ReadBack.{read_text_print}
use Rattle.model.proofs.Demand.{texts-alike, gather-texts, gather-wrote, gathered-valid}
use Rattle.model.proofs.OneText.{read-alone}
use Rattle.model_incremental.specs.Folded.{Round, first_round, next_round, Folded}

-- texts by what they hold
abbrev pub unnumbered : List Bytes → List Text
unnumbered bs = map (λ b. record { index = 0; bytes = b }) bs

pub unnumbered_hold : (bs : List Bytes) → contents (unnumbered bs) ≡ bs
unnumbered_hold [] = refl
unnumbered_hold (b ∷ bs) = ap (λ (l : List Bytes). b ∷ l) (unnumbered_hold bs)

holds-append : (bs : List Bytes) (ts : List Text) → contents (unnumbered bs ++ ts) ≡ bs ++ contents ts
holds-append bs ts =
    map-append (λ t. t.bytes) (unnumbered bs) ts ∙ ap (λ (l : List Bytes). l ++ contents ts) (unnumbered_hold bs)

-- ---- texts

module _ (tag : Kind → Bytes) (mode : Mode) (limit : ℕ) where
  abbrev gathers : List Text → Report → Answer Report
  gathers ts into = gather_texts tag mode limit ts into

  -- one text
  abbrev joins : Text → Report → Answer Report
  joins t into = in_text t.index (gather_text tag mode limit t.bytes into)

  -- texts and then others
  gathers-append : (ts us : List Text) (into : Report) → gathers (ts ++ us) into ≡ bind (gathers ts into) (gathers us)
  unfolding gather_texts
  gathers-append [] us into = refl
  gathers-append (t ∷ ts) us into =
      bind-next (joins t into) _ _ (gathers-append ts us) ∙ sym (bind_assoc (joins t into) (gathers ts) (gathers us))

  -- PARTS: a first part of what is accepted
  part-accepted : (first all : List Text) (rest : List Bytes) → contents all ≡ contents first ++ rest → IsAccepted (gathers all [])
      → IsAccepted (gathers first [])
  part-accepted first all rest e i =
      let (n, p) = accepted-is (gathers all []) i in
      let same : value (gathers all []) ≡ value (gathers (first ++ unnumbered rest) []) =
      texts-alike tag mode limit all (first ++ unnumbered rest) []
      (e ∙ ap (λ (l : List Bytes). contents first ++ l) (sym (unnumbered_hold rest)) ∙ sym (map-append (λ t. t.bytes) first (unnumbered rest))) in
      let q : bind (gathers first []) (gathers (unnumbered rest)) ≡ accepted n =
      sym (gathers-append first (unnumbered rest) []) ∙ value-accepted (gathers (first ++ unnumbered rest) []) (sym same ∙ ap value p) in
      let (m, r, s) = bind-accepted (gathers first []) (gathers (unnumbered rest)) q in
      is_accepted r

  module _ (L : Lawful tag) (small : limit ≤ u32_max) where
    -- FOLD: a report that is gathered, printed and read again is itself
    folds : (number : ℕ) (first rest : List Text) (report : Report) → gathers first [] ≡ accepted report
        → gathers (record { index = number; bytes = print_report tag report } ∷ rest) [] ≡ gathers (first ++ rest) []
    unfolding gather_texts
    folds number first rest report p =
        let (R, h) = gathered-valid tag mode limit first [] report empty_valid (omega arith) p in
        let back : gather_text tag mode limit (print_report tag report) [] ≡ accepted report =
        read-alone tag limit mode (print_report tag report) ∙ read_text_print tag L limit report R h small in
        ap (λ (r : Answer Report). bind (in_text number r) (gathers rest)) back
        ∙ ap (λ (r : Answer Report). bind r (gathers rest)) (sym p)
        ∙ sym (gathers-append first rest [])

    -- ---- rounds

    -- the next bundle of one that is folded
    next-fold : (earlier output : Bytes) (words room : ℕ) (before : List Bytes) (added : List Text) → entry_limit words ≡ limit
        → gather tag mode earlier words room ≡ accepted output → gathers (texts earlier) [] ≡ gathers (unnumbered before ++ added) []
        → (bundle : Bytes) (new first : List Text) → contents first ≡ before ++ contents added
        → texts bundle ≡ record { index = 0; bytes = output } ∷ new → gathers (texts bundle) [] ≡ gathers (first ++ new) []
    next-fold earlier output words room before added l g s bundle new first e t =
        let (report, w, p, o, h) = gather-wrote tag mode earlier words room g in
        let made : gathers (unnumbered before ++ added) [] ≡ accepted report =
        sym s ∙ ap (λ (n : ℕ). gather_texts tag mode n (texts earlier) []) (sym l) ∙ p in
        let same : value (gathers first []) ≡ value (gathers (unnumbered before ++ added) []) =
        texts-alike tag mode limit first (unnumbered before ++ added) [] (e ∙ sym (holds-append before added)) in
        ap (λ (ts : List Text). gathers ts []) t
        ∙ ap (λ (b : Bytes). gathers (record { index = 0; bytes = b } ∷ new) []) o
        ∙ folds 0 first new report (value-accepted (gathers first []) (same ∙ ap value made))

    -- ROUNDS: a bundle's texts are all texts so far
    rounds-fold : (bundle : Bytes) (before : List Bytes) (new first : List Text) → Round tag mode limit bundle before new → contents first ≡ before
        → gathers (texts bundle) [] ≡ gathers (first ++ new) []
    rounds-fold bundle before new first (first_round b) e = none_before first e
      where
        none_before : (first : List Text) → contents first ≡ [] → gathers new [] ≡ gathers (first ++ new) []
        none_before [] e = refl
        none_before (t ∷ ts) e = impossible cc
    rounds-fold bundle before new first (next_round b earlier output words room {before = bs} {added = ts} {new = us} l s g t) e =
        next-fold earlier output words room bs ts l g (rounds-fold earlier bs ts (unnumbered bs) s (unnumbered_hold bs)) bundle us first e t

-- ---- bundles

-- only an output that is too short is refused
written-refused : (room : ℕ) (bytes : Bytes) {c : Refusal} → written room bytes ≡ refused c → c.fault ≡ OutputTooShort
unfolding written
written-refused room bytes {c} p = go (leb (length bytes) room) p
  where
    inj : {b c : Refusal} → ◌≡◌ {A = Answer Bytes} (refused b) (refused c) → b ≡ c
    inj q = cc

    go : (b : Bool) → ◌≡◌ {A = Answer Bytes} (if b then accepted bytes else refuse_length (length bytes)) (refused c) → c.fault ≡ OutputTooShort
    go true q = absurd (not_refused q)
    go false q = ap (λ (r : Refusal). r.fault) (sym (inj q))

written-fits : (room : ℕ) (bytes : Bytes) → length bytes ≤ room → written room bytes ≡ accepted bytes
unfolding written
written-fits room bytes h = rw (le-leb (length bytes) room h)

module _ (tag : Kind → Bytes) (L : Lawful tag) (mode : Mode) where
  round_again : (bundle : Bytes) (before : List Bytes) (new first : List Text) (words room : ℕ) → well_formed bundle ≡ true
      → Round tag mode (entry_limit words) bundle before new → contents first ≡ before
      → gather tag mode bundle words room ≡ gather_many tag mode (first ++ new) words room
  round_again bundle before new first words room w s e =
      gather-texts tag mode bundle words room w
      ∙ ap (λ (r : Answer Report). bind r (λ report. written room (print_report tag report)))
      (rounds-fold tag mode (entry_limit words) L (omega arith) bundle before new first s e)

  round_total : (bundle : Bytes) (before : List Bytes) (new all : List Text) (words room : ℕ) → well_formed bundle ≡ true
      → Round tag mode (entry_limit words) bundle before new → contents all ≡ before ++ contents new
      → value (gather tag mode bundle words room) ≡ value (gather_many tag mode all words room)
  round_total bundle before new all words room w s e =
      ap value (round_again bundle before new (unnumbered before) words room w s (unnumbered_hold before))
      ∙ value-bind (gather_texts tag mode (entry_limit words) (unnumbered before ++ new) []) (gather_texts tag mode (entry_limit words) all [])
      (λ report. written room (print_report tag report))
      (texts-alike tag mode (entry_limit words) (unnumbered before ++ new) all [] (holds-append before new ∙ sym e))

  round_wrote : (bundle output : Bytes) (before : List Bytes) (new all : List Text) (words room room' : ℕ)
      → Round tag mode (entry_limit words) bundle before new → contents all ≡ before ++ contents new
      → gather tag mode bundle words room ≡ accepted output → length output ≤ room' → gather_many tag mode all words room' ≡ accepted output
  round_wrote bundle output before new all words room room' s e g h =
      let (report, w, p, o, f) = gather-wrote tag mode bundle words room g in
      value-accepted (gather_many tag mode all words room')
      (sym (round_total bundle before new all words room' w s e)
      ∙ ap value
      (gather-texts tag mode bundle words room' w
      ∙ ap (λ (r : Answer Report). bind r (λ report. written room' (print_report tag report))) p
      ∙ ap (written room') (sym o)
      ∙ written-fits room' output h))

  round_refused : (bundle : Bytes) (before : List Bytes) (new first left : List Text) (words room room' : ℕ) (refusal : Refusal)
      → well_formed bundle ≡ true → Round tag mode (entry_limit words) bundle before new → contents first ≡ before
      → gather tag mode bundle words room ≡ refused refusal → (refusal.fault ≡ OutputTooShort → ⊥)
      → gather_many tag mode (first ++ (new ++ left)) words room' ≡ refused refusal
  round_refused bundle before new first left words room room' refusal w s e p short =
      go (bind-refused (many (first ++ new)) (λ report. written room (print_report tag report))
      (sym (round_again bundle before new first words room w s e) ∙ p))
    where
      many : List Text → Answer Report
      many ts = gather_texts tag mode (entry_limit words) ts []

      go : (many (first ++ new) ≡ refused refusal)
          ⊎ ((report : Report) × (many (first ++ new) ≡ accepted report) × (written room (print_report tag report) ≡ refused refusal))
          → gather_many tag mode (first ++ (new ++ left)) words room' ≡ refused refusal
      go (inr (report, q, r)) = absurd (short (written-refused room (print_report tag report) r))
      go (inl q) =
          ap (λ (ts : List Text). gather_many tag mode ts words room') (sym (append_assoc first new left))
          ∙ ap (λ (r : Answer Report). bind r (λ report. written room' (print_report tag report)))
          (gathers-append tag mode (entry_limit words) (first ++ new) left []
          ∙ ap (λ (r : Answer Report). bind r (gather_texts tag mode (entry_limit words) left)) q)

-- GATHERS IN ROUNDS
pub folded : (tag : Kind → Bytes) → Lawful tag → Folded tag
folded tag L =
    record {
      fold_texts = λ mode words. folds tag mode (entry_limit words) L (omega arith);
      numbers = λ mode limit some others. texts-alike tag mode limit some others [];
      each_part = part-accepted tag;
      each_round = round_again tag L;
      total = round_total tag L;
      folded = round_wrote tag L;
      refused_round = round_refused tag L;
    }

-- under the tags of `RecordKind::as_str`
pub folded-default : Folded default_tag
folded-default = folded default_tag default_tag_lawful
