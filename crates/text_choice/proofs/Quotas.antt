-- Request N12, proved of the definitions, for every lawful table of tags. Assumes nothing.
use Prim.Native.Nat.{ℕ, suc, ◌+◌, ◌-◌, ◌≤◌, ◌<◌}
use native.Mathlib.Omega.{arith}
use mathlib.Core.Path.{◌≡◌, refl, sym, ap, ◌∙◌}
use mathlib.Core.Logic.{◌↔◌}
use mathlib.Core.Bool.{Bool, true, false}
use mathlib.Core.List.{List, [], ◌∷◌}
use mathlib.Core.Option.{some}
use lib.Dec.{leb, eqb}
use lib.ListN.{length}
use borrow.Author.Tests.{le-leb, lt-leb, leb-true, leb-false}
use Rattle.ordmap.specs.Result.{value, map_accepted, IsAccepted}
use Rattle.ordmap.specs.Gathering.{times}
use Rattle.ordmap.proofs.Results.{impossible, is_accepted, accepted-is, map_accepted-accepted, map_accepted-refused}
use Rattle.model.specs.declared.Kind.{Kind}
use Rattle.model.specs.declared.Mode.TheVariants.{Checked}
use Rattle.model.specs.declared.Refusal.{Refusal}
use Rattle.std.specs.Prelude.{if◌then◌else◌}
use Rattle.model.specs.Bytes.{Bytes, same_bytes}
use Rattle.model.specs.Limits.{max_labs}
use Rattle.model.specs.Answer.{Answer, accepted, refused}
use Rattle.model.specs.Tags.{default_tag, Lawful}
use Rattle.model.specs.TagTable.{load_tags}
use Rattle.model.specs.Report.{Report}
use Rattle.model.specs.Bundle.{Text, contents, well_formed, text_count, text_at}
use Rattle.model.specs.Gather.{entry_limit, gather_texts}
use Rattle.model.specs.Joined.{joined_report}
use Rattle.model.proofs.AnyOrder.{number_same}
use Rattle.model.proofs.Demand.{texts-exactly}
use Rattle.model.proofs.Refusals.{gathered_never_14}
use Rattle.model.proofs.TagLaws.{default_tag_lawful}
use Rattle.model.proofs.TagTableLaws.{loads_lawful}
use Rattle.text_choice.specs.declared.Mark.TheVariants.{LetIn, OverQuota, RefusedLab}
use Rattle.text_choice.specs.Choice.{choose_texts, SameLabelled, AcceptableTexts, SpelledOnce}
use Rattle.text_choice.specs.Quotas.{are_labs, lab_at, quota_of, lab_contents, lab_texts, numbered, marked, is_let_in, entries_of, mark_of, mark_at, is_in_text, let_in_texts, gather_labs, gather_quotas, Holding, QuotasClaim}
use Rattle.text_choice.proofs.Positions.{choose_agree}
use Rattle.text_choice.proofs.Choice.{chosen-same}
use Rattle.text_choice.proofs.ListGather.{list_part, list_order, list_writes, list_acceptable, list_back, refused_text}
use Rattle.text_choice.proofs.Windows.{at_from}
use Rattle.text_choice.proofs.Entries.{texts-counted}

-- ---- marks

marked_in : (quota : ℕ) (r s : Answer ℕ) → value r ≡ value s → is_let_in (marked quota r) ≡ is_let_in (marked quota s)
marked_in quota (accepted m) (accepted n) e = let f : m ≡ n = cc in ap (λ (n : ℕ). is_let_in (if leb n quota then LetIn n else OverQuota n)) f
marked_in quota (accepted m) (refused s) e = cc
marked_in quota (refused r) (accepted n) e = cc
marked_in quota (refused r) (refused s) e = refl

marked-entries : (quota : ℕ) (r : Answer ℕ) → entries_of (marked quota r) ≡ value r
marked-entries quota (accepted n) = go (leb n quota)
  where
    go : (b : Bool) → entries_of (if b then LetIn n else OverQuota n) ≡ some n
    go true = refl
    go false = refl
marked-entries quota (refused r) = refl

marked_let_in : (quota : ℕ) (r : Answer ℕ) {n : ℕ} → marked quota r ≡ LetIn n → (r ≡ accepted n) × (n ≤ quota)
marked_let_in quota (accepted m) {n} p = go (leb m quota) refl p
  where
    go : (b : Bool) → leb m quota ≡ b → (if b then LetIn m else OverQuota m) ≡ LetIn n → (◌≡◌ {A = Answer ℕ} (accepted m) (accepted n)) × (n ≤ quota)
    go true e q = let f : m ≡ n = cc in (ap (λ (k : ℕ). accepted k) f, rw (← f) (leb-true m quota e))
    go false e q = impossible cc
marked_let_in quota (refused r) p = impossible cc

marked-over : (quota : ℕ) (r : Answer ℕ) {n : ℕ} → marked quota r ≡ OverQuota n → (r ≡ accepted n) × (quota < n)
marked-over quota (accepted m) {n} p = go (leb m quota) refl p
  where
    go : (b : Bool) → leb m quota ≡ b → (if b then LetIn m else OverQuota m) ≡ OverQuota n → (◌≡◌ {A = Answer ℕ} (accepted m) (accepted n)) × (quota < n)
    go true e q = impossible cc
    go false e q = let f : m ≡ n = cc in (ap (λ (k : ℕ). accepted k) f, rw (← f) (leb-false m quota e))
marked-over quota (refused r) p = impossible cc

marked_refused : (quota : ℕ) (a : Answer ℕ) {r : Refusal} → marked quota a ≡ RefusedLab r → a ≡ refused r
marked_refused quota (accepted m) {r} p = go (leb m quota) p
  where
    go : (b : Bool) → (if b then LetIn m else OverQuota m) ≡ RefusedLab r → ◌≡◌ {A = Answer ℕ} (accepted m) (refused r)
    go true q = impossible cc
    go false q = impossible cc
marked_refused quota (refused s) p = cc

let_in_marked : (quota : ℕ) {r : Answer ℕ} {n : ℕ} → r ≡ accepted n → n ≤ quota → marked quota r ≡ LetIn n
let_in_marked quota {n = n} p h = rw (p, le-leb n quota h)

over-marked : (quota : ℕ) {r : Answer ℕ} {n : ℕ} → r ≡ accepted n → quota < n → marked quota r ≡ OverQuota n
over-marked quota {n = n} p h = rw (p, lt-leb n quota h)

numbered-contents : (i : ℕ) (bs : List Bytes) → contents (numbered i bs) ≡ bs
unfolding numbered
numbered-contents i [] = refl
numbered-contents i (b ∷ bs) = ap (λ (l : List Bytes). b ∷ l) (numbered-contents (suc i) bs)

module _ (tag : Kind → Bytes) where
  abbrev counted : ℕ → List Bytes → Answer ℕ
  counted limit held = map_accepted length (gather_texts tag Checked limit (numbered 0 held) [])

  -- ---- what a mark says

  counted-exactly : (limit n : ℕ) (held : List Bytes) → (counted limit held ≡ accepted n) ↔ Holding tag limit held n
  counted-exactly limit n held = (to, back)
    where
      to : counted limit held ≡ accepted n → Holding tag limit held n
      to p =
          let (m, g, e) = map_accepted-accepted length (gather_texts tag Checked limit (numbered 0 held) []) p in
          let (rs, G, f) = (texts-exactly tag limit (numbered 0 held) m).0 g in
          (rs, G, sym e ∙ ap length f)

      back : Holding tag limit held n → counted limit held ≡ accepted n
      back (rs, G, e) = rw ((texts-exactly tag limit (numbered 0 held) (joined_report rs)).1 (rs, G, refl), e)

  mark_let_in : (limit quota n : ℕ) (held : List Bytes) → (mark_of tag limit quota held ≡ LetIn n) ↔ (Holding tag limit held n × (n ≤ quota))
  unfolding mark_of
  mark_let_in limit quota n held = (
    λ p. let (c, l) = marked_let_in quota (counted limit held) p in ((counted-exactly limit n held).0 c, l),
    λ (h, l). let_in_marked quota ((counted-exactly limit n held).1 h) l,
  )

  mark_over : (limit quota n : ℕ) (held : List Bytes) → (mark_of tag limit quota held ≡ OverQuota n) ↔ (Holding tag limit held n × (quota < n))
  unfolding mark_of
  mark_over limit quota n held = (
    λ p. let (c, l) = marked-over quota (counted limit held) p in ((counted-exactly limit n held).0 c, l),
    λ (h, l). over-marked quota ((counted-exactly limit n held).1 h) l,
  )

  mark_refused : (limit quota : ℕ) (held : List Bytes) (r : Refusal)
      → (mark_of tag limit quota held ≡ RefusedLab r) ↔ (gather_texts tag Checked limit (numbered 0 held) [] ≡ refused r)
  unfolding mark_of
  mark_refused limit quota held r = (
    λ p. map_accepted-refused length (gather_texts tag Checked limit (numbered 0 held) []) (marked_refused quota (counted limit held) p),
    λ p. rw p,
  )

  quotas_answer : (bundle : Bytes) (labs quotas : List ℕ) (words room : ℕ) → well_formed bundle ≡ true → are_labs bundle labs quotas ≡ true
      → gather_quotas tag bundle labs quotas words room ≡ accepted (gather_labs tag bundle labs quotas words room)
  unfolding gather_quotas
  quotas_answer bundle labs quotas words room w g = rw (w, g)

  others_changed : (a b : Bytes) (labs quotas : List ℕ) (words lab : ℕ) → text_count a ≡ text_count b
      → ((i : ℕ) → i < text_count a → eqb lab (lab_at labs i) ≡ true → text_at a i ≡ text_at b i)
      → mark_at tag (entry_limit words) a labs quotas lab ≡ mark_at tag (entry_limit words) b labs quotas lab
  unfolding lab_contents
  others_changed a b labs quotas words lab n h =
      ap (λ (ts : List Text). mark_of tag (entry_limit words) (quota_of quotas lab) (contents ts))
      (choose_agree (λ i. eqb lab (lab_at labs i)) (λ i. eqb lab (lab_at labs i)) (text_at a) (text_at b) 0 (text_count a)
      (λ i l m. refl) (λ i l m e. h i (omega arith) e)
      ∙ ap (choose_texts (λ i. eqb lab (lab_at labs i)) (text_at b) 0) n)

  -- ---- any order

  module _ (a b : Bytes) (labs labs' quotas : List ℕ) (s : SameLabelled eqb (lab_texts a labs) (lab_texts b labs')) where
    lab_counted : (limit lab : ℕ) → value (counted limit (lab_contents a labs lab)) ≡ value (counted limit (lab_contents b labs' lab))
    unfolding lab_contents
    lab_counted limit lab =
        texts-counted tag limit (numbered 0 (lab_contents a labs lab)) (numbered 0 (lab_contents b labs' lab))
        (λ bytes. ap (times same_bytes bytes) (numbered-contents 0 (lab_contents a labs lab))
        ∙ chosen-same eqb number_same (lab_at labs) (lab_at labs') (text_at a) (text_at b) (text_count a) (text_count b) s (eqb lab) (eqb lab) (λ l. refl) bytes
        ∙ ap (times same_bytes bytes) (sym (numbered-contents 0 (lab_contents b labs' lab))))

    same_in : (limit lab : ℕ) → is_let_in (mark_at tag limit a labs quotas lab) ≡ is_let_in (mark_at tag limit b labs' quotas lab)
    unfolding mark_of
    same_in limit lab =
        marked_in (quota_of quotas lab) (counted limit (lab_contents a labs lab)) (counted limit (lab_contents b labs' lab)) (lab_counted limit lab)

    same_entries : (limit lab : ℕ) → entries_of (mark_at tag limit a labs quotas lab) ≡ entries_of (mark_at tag limit b labs' quotas lab)
    unfolding mark_of
    same_entries limit lab =
        marked-entries (quota_of quotas lab) (counted limit (lab_contents a labs lab))
        ∙ lab_counted limit lab
        ∙ sym (marked-entries (quota_of quotas lab) (counted limit (lab_contents b labs' lab)))

    joint-order : (words words' room : ℕ) → entry_limit words' ≡ entry_limit words → SpelledOnce tag words (let_in_texts tag (entry_limit words) a labs quotas)
        → value (gather_labs tag a labs quotas words room).joint ≡ value (gather_labs tag b labs' quotas words' room).joint
    joint-order words words' room l o =
        list_order tag (let_in_texts tag (entry_limit words) a labs quotas) (let_in_texts tag (entry_limit words') b labs' quotas) words words' room l
        (chosen-same eqb number_same (lab_at labs) (lab_at labs') (text_at a) (text_at b) (text_count a) (text_count b) s
        (λ lab. is_let_in (mark_at tag (entry_limit words) a labs quotas lab)) (λ lab. is_let_in (mark_at tag (entry_limit words') b labs' quotas lab))
        (λ lab. same_in (entry_limit words) lab ∙ ap (λ (n : ℕ). is_let_in (mark_at tag n b labs' quotas lab)) (sym l))) o

  -- ---- the joint gather

  joint-exactly : (bundle : Bytes) (labs quotas : List ℕ) (words room : ℕ)
      → IsAccepted (gather_labs tag bundle labs quotas words room).joint
      ↔ ((reports : List Report) × AcceptableTexts tag (let_in_texts tag (entry_limit words) bundle labs quotas) words room reports)
  joint-exactly bundle labs quotas words room = (to, back)
    where
      ts : List Text
      ts = let_in_texts tag (entry_limit words) bundle labs quotas

      to : IsAccepted (gather_labs tag bundle labs quotas words room).joint → (reports : List Report) × AcceptableTexts tag ts words room reports
      to i = let (bytes, p) = accepted-is (gather_labs tag bundle labs quotas words room).joint i in list_acceptable tag ts words room p

      back : (reports : List Report) × AcceptableTexts tag ts words room reports → IsAccepted (gather_labs tag bundle labs quotas words room).joint
      back (rs, A) = is_accepted (list_writes tag ts words room rs A)

  text-index : (bundle : Bytes) (i : ℕ) → (text_at bundle i).index ≡ i
  unfolding text_at
  text-index bundle i = refl

  -- N12
  pub quotas_hold : Lawful tag → QuotasClaim tag
  quotas_hold L =
      record {
        answers = quotas_answer;
        mark_of_lem = λ bundle labs quotas words room lab d h l.
            let e : 1 + (lab - 1) ≡ lab = omega arith in
            at_from (mark_at tag (entry_limit words) bundle labs quotas) 1 max_labs (lab - 1) d (omega arith) ∙ ap (mark_at tag (entry_limit words) bundle labs quotas) e;
        let_in = mark_let_in;
        over_quota = mark_over;
        refused_lab = mark_refused;
        never_14 = λ limit quota held r p n. gathered_never_14 tag Checked limit (numbered 0 held) [] ((mark_refused limit quota held r).0 p) n;
        own_mark = λ a b labs labs' quotas quotas' words words' lab e q l.
            ap (λ (held : List Bytes). mark_of tag (entry_limit words) (quota_of quotas lab) held) e
            ∙ ap (λ (n : ℕ). mark_of tag (entry_limit words) n (lab_contents b labs' lab)) q
            ∙ ap (λ (n : ℕ). mark_of tag n (quota_of quotas' lab) (lab_contents b labs' lab)) (sym l);
        others_changed = others_changed;
        joint_accepts = joint-exactly;
        joint_writes = λ bundle labs quotas words room. list_writes tag (let_in_texts tag (entry_limit words) bundle labs quotas) words room;
        joint_reads_back = λ bundle labs quotas words room. list_back tag L (let_in_texts tag (entry_limit words) bundle labs quotas) words room;
        joint_refused = λ bundle labs quotas limit r p.
            refused_text tag (is_in_text tag limit bundle labs quotas) (text_at bundle) (text-index bundle) limit (text_count bundle) r p;
        as_gathered = λ bundle part labs quotas words words' room w e l.
            list_part tag (let_in_texts tag (entry_limit words) bundle labs quotas) part words words' room w e l;
        same_entries = λ a b labs labs' quotas words words' lab s l. (
          same_in a b labs labs' quotas s (entry_limit words) lab ∙ ap (λ (n : ℕ). is_let_in (mark_at tag n b labs' quotas lab)) (sym l),
          same_entries a b labs labs' quotas s (entry_limit words) lab ∙ ap (λ (n : ℕ). entries_of (mark_at tag n b labs' quotas lab)) (sym l),
        );
        any_order = λ a b labs labs' quotas words words' room s l o. joint-order a b labs labs' quotas s words words' room l o;
      }

-- N12 under every table of tags that loads
pub quotas_loaded : (table : Bytes) (tag : Kind → Bytes) → load_tags table ≡ accepted tag → QuotasClaim tag
quotas_loaded table tag loads = quotas_hold tag (loads_lawful table tag loads)

-- N12 under the tags of `RecordKind::as_str`
pub quotas_default : QuotasClaim default_tag
quotas_default = quotas_hold default_tag default_tag_lawful
