-- Demand 3 of the request, proved of the definitions, for every lawful table of tags. Assumes nothing.
use Prim.Native.Nat.{ℕ, ◌≤◌}
use native.Mathlib.Omega.{arith}
use mathlib.Core.Path.{◌≡◌, refl, sym, ap, ◌∙◌}
use mathlib.Core.Logic.{◌↔◌}
use mathlib.Core.Bool.{Bool, true, false}
use mathlib.Core.List.Memᴰ
use mathlib.Core.List.Memᴰ.{head as here}
use mathlib.Core.List.Memᴰ.{tail as there}
use mathlib.Core.List.{List, [], ◌∷◌, Memᴰ as Member}
use mathlib.Core.List.Permᴰ.{symm as p-symm}
use mathlib.Core.List.{Permᴰ as Perm}
use mathlib.Core.Option.{none, some}
use lib.Dec.{leb}
use lib.ListN.{length}
use borrow.Author.Tests.{le-leb, leb-true}
use Rattle.ordmap.specs.Result.{bind, value, IsAccepted}
use Rattle.ordmap.specs.Keyed.{add_all}
use Rattle.ordmap.specs.Gathering.{flat, gather_all, times, read_all as readEach}
use Rattle.ordmap.proofs.Results.{impossible, accepted_inj, not_accepted, is_accepted, accepted-is, bind-next, bind-accepted, value_both, value-bind, value-bind-next}
use Rattle.ordmap.proofs.Members.{flat_member}
use Rattle.ordmap.proofs.Perms.{perm_of_times}
use Rattle.ordmap.proofs.Gathered.{gather-accepted, read_all-cons, read_all_perm, within-accepted, map_refused-accepted}
use Rattle.model.specs.declared.Fault.TheVariants.{TooManyEntries, MalformedBundle}
use Rattle.model.specs.declared.Kind.{Kind}
use Rattle.model.specs.declared.Mode.{Mode}
use Rattle.model.specs.declared.Mode.TheVariants.{Checked}
use Rattle.model.specs.declared.Refusal.{Refusal}
use Rattle.std.specs.Prelude.{if◌then◌else◌}
use Rattle.model.specs.Bytes.{Bytes, same_bytes}
use Rattle.model.specs.Limits.{u32_max}
use Rattle.model.specs.Answer.{Answer, accepted, refused, ◌>>=◌, unplaced, refuse, refuse_length, in_text}
use Rattle.model.specs.Tags.{default_tag, Lawful}
use Rattle.model.specs.Report.{
  Item,
  section_item,
  function_item,
  branch_item,
  line_item,
  Entry,
  Report,
  compare_keys,
  entry_key,
  count_of,
  combine_entries,
  merge,
  within,
}
use Rattle.model.specs.Reading.{read_text}
use Rattle.model.specs.Output.{written}
use Rattle.model.specs.Printing.{print_report}
use Rattle.model.specs.Bundle.{Text, contents, well_formed, texts}
use Rattle.model.specs.Gather.{entry_limit, read_and_print, gather_text, gather_texts, gather_bundle, gather}
use Rattle.model.specs.Joined.{all_entries, joined_report, read_all, starts_agree, checksums_agree, sums_fit, SameTexts, one_spelling}
use Rattle.model.specs.Valid.{ItemFits, Valid}
use Rattle.model.specs.Demand.{Gatherable, Acceptable, Demand3}
use Rattle.model.proofs.KeyOrder.{bytes_same}
use Rattle.model.proofs.TagLaws.{default_tag_lawful}
use Rattle.model.proofs.Items.{Counted, joins}
use Rattle.model.proofs.Joinable.{joins_exactly}
use Rattle.model.proofs.JoinedLaws.{joined-sorted, joined-keys, joined-values, report-exactly}
use Rattle.model.proofs.AnyOrder.{order-spelled, order_joinable, order-joined}
use Rattle.model.proofs.Read.{empty_valid, read_text-valid}
use Rattle.model.proofs.MergeValid.{merge-valid}
use Rattle.model.proofs.ReadBack.{read_text_print}

-- ---- counts

counted : (i : Item) → ItemFits i → Counted i
unfolding count_of
counted (section_item spelling) f = omega arith
counted (function_item fn) f = f.2
counted (branch_item line block branch none) f = omega arith
counted (branch_item line block branch (some taken)) f = f.3
counted (line_item line count checksum) f = f.1

-- ---- written bytes

pub written-accepted : (room : ℕ) (bytes : Bytes) {out : Bytes} → written room bytes ≡ accepted out → (out ≡ bytes) × (length bytes ≤ room)
unfolding written
written-accepted room bytes {out} p = go (leb (length bytes) room) refl p
  where
    go : (t : Bool) → leb (length bytes) room ≡ t → ◌≡◌ {A = Answer Bytes} (if t then accepted bytes else refuse_length (length bytes)) (accepted out)
        → (out ≡ bytes) × (length bytes ≤ room)
    go true e q = (sym (accepted_inj q), leb-true (length bytes) room e)
    go false e q = absurd (not_accepted q)

pub written-fits : (room : ℕ) (bytes : Bytes) → length bytes ≤ room → written room bytes ≡ accepted bytes
unfolding written
written-fits room bytes h = rw (le-leb (length bytes) room h)

-- ---- the gather of maps

-- the refusal of a number past the limit, and a refusal put in a text
abbrev pub full : Refusal
full = unplaced TooManyEntries

abbrev pub place : Text → Refusal → Refusal
place t r = record { fault = r.fault; text = t.index; line = r.line; field = r.field; needed = r.needed }

abbrev pub bytes_of : Text → Bytes
bytes_of t = t.bytes

module _ (tag : Kind → Bytes) (mode : Mode) where
  -- the model's gather is the gather of maps
  pub gather-same : (limit : ℕ) (ts : List Text) (m : Report)
      → gather_texts tag mode limit ts m ≡ gather_all entry_key compare_keys (combine_entries mode) bytes_of (read_text tag limit) full limit place ts m
  unfolding gather_texts gather_text merge within
  gather-same limit [] m = refl
  gather-same limit (t ∷ ts) m = bind-next (in_text t.index (gather_text tag mode limit t.bytes m)) _ _ (gather-same limit ts)

  -- what is gathered of a bundle is gathered of its texts, and the bundle is well formed
  pub bundle-gathered : (bundle : Bytes) (words : ℕ) {n : Report} → gather_bundle tag mode bundle words ≡ accepted n
      → (well_formed bundle ≡ true) × (gather_texts tag mode (entry_limit words) (texts bundle) [] ≡ accepted n)
  unfolding gather_bundle
  bundle-gathered bundle words {n} p = go (well_formed bundle) refl p
    where
      go : (b : Bool) → well_formed bundle ≡ b
          → ◌≡◌ {A = Answer Report} (if b then gather_texts tag mode (entry_limit words) (texts bundle) [] else refuse MalformedBundle) (accepted n)
          → (well_formed bundle ≡ true) × (gather_texts tag mode (entry_limit words) (texts bundle) [] ≡ accepted n)
      go true w q = (w, q)
      go false w q = absurd (not_accepted q)

  -- ALIKE: texts that hold the same, whatever their indexes, which only refusals have
  pub texts-alike : (limit : ℕ) (ts us : List Text) (into : Report) → contents ts ≡ contents us
      → value (gather_texts tag mode limit ts into) ≡ value (gather_texts tag mode limit us into)
  unfolding gather_texts
  texts-alike limit [] [] into e = refl
  texts-alike limit [] (u ∷ us) into e = impossible cc
  texts-alike limit (t ∷ ts) [] into e = impossible cc
  texts-alike limit (t ∷ ts) (u ∷ us) into e =
      value-bind (gathered t) (gathered u) (gather_texts tag mode limit ts)
      (renumbered (gather_text tag mode limit t.bytes into) ∙ ap (λ (b : Bytes). value (in_text u.index (gather_text tag mode limit b into))) (head e))
      ∙ value-bind-next (gathered u) (gather_texts tag mode limit ts) (gather_texts tag mode limit us) (λ next p. texts-alike limit ts us next (tail e))
    where
      gathered : Text → Answer Report
      gathered t = in_text t.index (gather_text tag mode limit t.bytes into)

      renumbered : (r : Answer Report) → value (in_text t.index r) ≡ value (in_text u.index r)
      renumbered (accepted a) = refl
      renumbered (refused c) = refl

      head : {b c : Bytes} {bs cs : List Bytes} → ◌≡◌ {A = List Bytes} (b ∷ bs) (c ∷ cs) → b ≡ c
      head e = cc

      tail : {b c : Bytes} {bs cs : List Bytes} → ◌≡◌ {A = List Bytes} (b ∷ bs) (c ∷ cs) → bs ≡ cs
      tail e = cc

  -- a well-formed bundle: its texts are gathered, and the report is written
  pub gather-texts : (bundle : Bytes) (words room : ℕ) → well_formed bundle ≡ true
      → gather tag mode bundle words room ≡ (gather_texts tag mode (entry_limit words) (texts bundle) [] >>= λ report. written room (print_report tag report))
  unfolding gather gather_bundle
  gather-texts bundle words room w = rw w

  -- an accepted bundle is well formed, its texts are gathered, and what is written is their report, printed
  pub gather-wrote : (bundle : Bytes) (words room : ℕ) {bytes : Bytes} → gather tag mode bundle words room ≡ accepted bytes
      → (n : Report) × (well_formed bundle ≡ true) × (gather_texts tag mode (entry_limit words) (texts bundle) [] ≡ accepted n)
      × (bytes ≡ print_report tag n) × (length (print_report tag n) ≤ room)
  unfolding gather gather_bundle
  gather-wrote bundle words room {bytes} p =
      let (n, g, q) = bind-accepted (gather_bundle tag mode bundle words) _ p in
      let (w, t) = bundle-gathered bundle words g in
      let (f, h) = written-accepted room (print_report tag n) q in
      (n, w, t, f, h)

  -- VALID: what is gathered is a valid report within the limit
  text-valid : (limit : ℕ) (text : Bytes) (m n : Report) → Valid m → gather_text tag mode limit text m ≡ accepted n → Valid n × (length n ≤ limit)
  unfolding gather_text within
  text-valid limit text m n M p =
      let (r, q, p') = bind-accepted (read_text tag limit text) _ p in
      let (j, a, w) = bind-accepted (merge mode m r) _ p' in
      let (e, h) = within-accepted full limit (length j) j w in
      rw (← e) (merge-valid mode m r j M (read_text-valid tag limit text q).0 a, h)

  pub gathered-valid : (limit : ℕ) (ts : List Text) (m n : Report) → Valid m → length m ≤ limit → gather_texts tag mode limit ts m ≡ accepted n
      → Valid n × (length n ≤ limit)
  unfolding gather_texts
  gathered-valid limit [] m n M h p = rw (← (accepted_inj p)) (M, h)
  gathered-valid limit (t ∷ ts) m n M h p =
      let (j, q, p') = bind-accepted (in_text t.index (gather_text tag mode limit t.bytes m)) _ p in
      let (J, i) = text-valid limit t.bytes m j M (map_refused-accepted (place t) (gather_text tag mode limit t.bytes m) q) in
      gathered-valid limit ts j n J i p'

module _ (tag : Kind → Bytes) where
  -- ---- the texts' reports

  -- a report read is the report of a text
  pub read-valid : (limit : ℕ) (ts : List Bytes) (rs : List Report) → readEach (read_text tag limit) ts ≡ accepted rs → (r : Report) → Member r rs → Valid r
  read-valid limit [] rs p r i = absurd (Memᴰ.not-nil (rw (← (accepted_inj p)) at i))
  read-valid limit (t ∷ ts) rs p r i = go (read_all-cons (read_text tag limit) t ts p) (λ qs q j. read-valid limit ts qs q r j)
    where
      go : (x : Report) × (qs : List Report) × (read_text tag limit t ≡ accepted x) × (readEach (read_text tag limit) ts ≡ accepted qs) × (x ∷ qs ≡ rs)
          → ((qs : List Report) → readEach (read_text tag limit) ts ≡ accepted qs → Member r qs → Valid r) → Valid r
      go (x, qs, g, q, f) ih = at (rw (← f) at i)
        where
          at : Member r (x ∷ qs) → Valid r
          at (here h) = rw h (read_text-valid tag limit t g).0
          at (there j) = ih qs q j

  pub read-counted : (limit : ℕ) (ts : List Text) (rs : List Report) → read_all tag limit ts ≡ accepted rs
      → (e : Entry) → Member e (all_entries rs) → Counted e.item
  read-counted limit ts rs p e i =
      let (r, j, k) = flat_member rs i in
      counted e.item ((read-valid limit (contents ts) rs p r j).fits e k)

  joins_of : {limit : ℕ} {ts : List Text} {rs : List Report} → Gatherable tag limit ts rs → joins rs ≡ true
  joins_of {rs} G = (joins_exactly rs).1 (G.starts_agree_lem, G.checksums_agree_lem, G.sums_fit_lem)

  -- TEXTS: accepted exactly when all are readable, their reports join and the joined report fits; and then it is that report
  pub texts-exactly : (limit : ℕ) (ts : List Text) (n : Report)
      → (gather_texts tag Checked limit ts [] ≡ accepted n) ↔ ((rs : List Report) × Gatherable tag limit ts rs × (n ≡ joined_report rs))
  texts-exactly limit ts n = (to, from)
    where
      gathered : (gather_all entry_key compare_keys (combine_entries Checked) bytes_of (read_text tag limit) full limit place ts [] ≡ accepted n)
          ↔ ((rs : List Report) × (read_all tag limit ts ≡ accepted rs)
          × (add_all entry_key compare_keys (combine_entries Checked) (flat rs) [] ≡ accepted n) × (length n ≤ limit))
      gathered = gather-accepted entry_key compare_keys (combine_entries Checked) bytes_of (read_text tag limit) full limit place ts n

      to : gather_texts tag Checked limit ts [] ≡ accepted n → (rs : List Report) × Gatherable tag limit ts rs × (n ≡ joined_report rs)
      to p =
          let (rs, r, a, h) = gathered.0 (sym (gather-same tag Checked limit ts []) ∙ p) in
          let (j, e) = (report-exactly rs (read-counted limit ts rs r) n).0 a in
          let (s, c, t) = (joins_exactly rs).0 j in
          (rs, record { readable = r; starts_agree_lem = s; checksums_agree_lem = c; sums_fit_lem = t; within_limit = omega (arith, h, ap length e) }, e)

      from : (rs : List Report) × Gatherable tag limit ts rs × (n ≡ joined_report rs) → gather_texts tag Checked limit ts [] ≡ accepted n
      from (rs, G, e) =
          gather-same tag Checked limit ts []
          ∙ gathered.1 (rs, G.readable, (report-exactly rs (read-counted limit ts rs G.readable) n).1 (joins_of G, e), omega (arith, G.within_limit, ap length e))

  -- BUNDLE: what is written, and when
  pub gather-writes : (bundle : Bytes) (words room : ℕ) (reports : List Report) → Acceptable tag bundle words room reports
      → gather tag Checked bundle words room ≡ accepted (print_report tag (joined_report reports))
  gather-writes bundle words room rs A =
      gather-texts tag Checked bundle words room A.well_formed_lem
      ∙ ap (λ (r : Answer Report). bind r (λ report. written room (print_report tag report)))
      ((texts-exactly (entry_limit words) (texts bundle) (joined_report rs)).1 (rs, A.gatherable, refl))
      ∙ written-fits room (print_report tag (joined_report rs)) A.within_room

  pub gather-acceptable : (bundle : Bytes) (words room : ℕ) {bytes : Bytes} → gather tag Checked bundle words room ≡ accepted bytes
      → (reports : List Report) × Acceptable tag bundle words room reports × (bytes ≡ print_report tag (joined_report reports))
  gather-acceptable bundle words room p =
      let (n, w, g, f, h) = gather-wrote tag Checked bundle words room p in
      let (rs, G, e) = (texts-exactly (entry_limit words) (texts bundle) n).0 g in
      (rs, record { well_formed_lem = w; gatherable = G; within_room = rw (← e) h }, f ∙ ap (print_report tag) e)

  gather-exactly : (bundle : Bytes) (words room : ℕ)
      → IsAccepted (gather tag Checked bundle words room) ↔ ((reports : List Report) × Acceptable tag bundle words room reports)
  gather-exactly bundle words room = (to, from)
    where
      to : IsAccepted (gather tag Checked bundle words room) → (reports : List Report) × Acceptable tag bundle words room reports
      to i =
          let (bytes, p) = accepted-is (gather tag Checked bundle words room) i in
          let (rs, A, e) = gather-acceptable bundle words room p in
          (rs, A)

      from : (reports : List Report) × Acceptable tag bundle words room reports → IsAccepted (gather tag Checked bundle words room)
      from (rs, A) = is_accepted (gather-writes bundle words room rs A)

  -- ---- any order

  order_back : (limit : ℕ) (ts us : List Text) → Perm (contents ts) (contents us)
      → ((reports : List Report) → read_all tag limit ts ≡ accepted reports → one_spelling reports ≡ true)
      → (n : Report) → gather_texts tag Checked limit ts [] ≡ accepted n → gather_texts tag Checked limit us [] ≡ accepted n
  order_back limit ts us d o n p =
      let (rs, G, e) = (texts-exactly limit ts n).0 p in
      let (qs, q, g) = read_all_perm (read_text tag limit) rs d G.readable in
      let h : joined_report rs ≡ joined_report qs = order-joined rs qs g (o rs G.readable) (joins_of G) in
      let (s, c, t) = (joins_exactly qs).0 (order_joinable rs qs g (o rs G.readable) (joins_of G)) in
      (texts-exactly limit us n).1
      (qs, record { readable = q; starts_agree_lem = s; checksums_agree_lem = c; sums_fit_lem = t; within_limit = omega (arith, G.within_limit, ap length h) }, e ∙ h)

  -- TEXTS in another order
  pub texts-order : (limit : ℕ) (ts us : List Text) → SameTexts ts us
      → ((reports : List Report) → read_all tag limit ts ≡ accepted reports → one_spelling reports ≡ true)
      → value (gather_texts tag Checked limit ts []) ≡ value (gather_texts tag Checked limit us [])
  texts-order limit ts us s o =
      value_both (gather_texts tag Checked limit ts []) (gather_texts tag Checked limit us []) (order_back limit ts us d o) (order_back limit us ts (p-symm d) spelled)
    where
      d : Perm (contents ts) (contents us)
      d = perm_of_times same_bytes bytes_same (contents ts) (contents us) s

      spelled : (qs : List Report) → read_all tag limit us ≡ accepted qs → one_spelling qs ≡ true
      spelled qs q = let (rs, r, g) = read_all_perm (read_text tag limit) qs (p-symm d) q in order-spelled rs qs (p-symm g) (o rs r)

  -- BUNDLES whose texts are gathered alike are
  pub gather-alike : (a b : Bytes) (words words' room : ℕ) → well_formed a ≡ true → well_formed b ≡ true → entry_limit words' ≡ entry_limit words
      → value (gather_texts tag Checked (entry_limit words) (texts a) []) ≡ value (gather_texts tag Checked (entry_limit words) (texts b) [])
      → value (gather tag Checked a words room) ≡ value (gather tag Checked b words' room)
  gather-alike a b words words' room v w l h =
      ap value (gather-texts tag Checked a words room v)
      ∙ value-bind (gather_texts tag Checked (entry_limit words) (texts a) []) (gather_texts tag Checked (entry_limit words) (texts b) []) next h
      ∙ ap (λ (n : ℕ). value (bind (gather_texts tag Checked n (texts b) []) next)) (sym l)
      ∙ ap value (sym (gather-texts tag Checked b words' room w))
    where
      next : Report → Answer Bytes
      next report = written room (print_report tag report)

-- ---- reading back

module _ (tag : Kind → Bytes) (L : Lawful tag) where
  -- a valid report within the limit, printed, is read back, and printed again gives the same bytes
  pub print_back : (limit : ℕ) (report : Report) → Valid report → length report ≤ limit → limit ≤ u32_max
      → (bytes : Bytes) → bytes ≡ print_report tag report → (words room : ℕ) → entry_limit words ≡ limit → length bytes ≤ room
      → (read_text tag (entry_limit words) bytes ≡ accepted report) × (read_and_print tag bytes words room ≡ accepted bytes)
  unfolding read_and_print
  print_back limit report R f small bytes e words room l h =
      let r : read_text tag (entry_limit words) bytes ≡ accepted report =
      ap (read_text tag (entry_limit words)) e
      ∙ ap (λ (n : ℕ). read_text tag n (print_report tag report)) l
      ∙ read_text_print tag L limit report R f small in
      (r, rw r (ap (written room) (sym e) ∙ written-fits room bytes h))

  -- what a gather wrote, in either mode
  pub wrote_back : (mode : Mode) (bundle : Bytes) (words room : ℕ) (bytes : Bytes) → gather tag mode bundle words room ≡ accepted bytes
      → (words' room' : ℕ) → entry_limit words' ≡ entry_limit words → length bytes ≤ room'
      → (report : Report) × (bytes ≡ print_report tag report) × (read_text tag (entry_limit words') bytes ≡ accepted report)
      × (read_and_print tag bytes words' room' ≡ accepted bytes)
  wrote_back mode bundle words room bytes p words' room' l h =
      let (n, w, g, e, f) = gather-wrote tag mode bundle words room p in
      let (N, i) = gathered-valid tag mode (entry_limit words) (texts bundle) [] n empty_valid (omega arith) g in
      let (r, b) = print_back (entry_limit words) n N i (omega arith) bytes e words' room' l h in
      (n, e, r, b)

  -- what the checked gather wrote is the joined report
  joined_back : (bundle : Bytes) (words room : ℕ) (reports : List Report) → Acceptable tag bundle words room reports
      → (bytes : Bytes) → bytes ≡ print_report tag (joined_report reports)
      → (words' room' : ℕ) → entry_limit words' ≡ entry_limit words → length bytes ≤ room'
      → (read_text tag (entry_limit words') bytes ≡ accepted (joined_report reports)) × (read_and_print tag bytes words' room' ≡ accepted bytes)
  joined_back bundle words room rs A bytes e words' room' l h =
      let g : gather_texts tag Checked (entry_limit words) (texts bundle) [] ≡ accepted (joined_report rs) =
      (texts-exactly tag (entry_limit words) (texts bundle) (joined_report rs)).1 (rs, A.gatherable, refl) in
      let (N, i) = gathered-valid tag Checked (entry_limit words) (texts bundle) [] (joined_report rs) empty_valid (omega arith) g in
      print_back (entry_limit words) (joined_report rs) N i (omega arith) bytes e words' room' l h

  -- DEMAND 3
  pub demand3 : Demand3 tag
  demand3 =
      record {
        accepts = gather-exactly tag;
        writes = gather-writes tag;
        once = λ limit text report p. (read_text-valid tag limit text p).0.sorted;
        ordered = joined-sorted;
        keys = joined-keys;
        values = joined-values;
        reads_back = joined_back;
        any_order = λ a b words words' room v w s l o.
            gather-alike tag a b words words' room v w l (texts-order tag (entry_limit words) (texts a) (texts b) s o);
      }

-- DEMAND 3 under the tags of `RecordKind::as_str`
pub demand3_default : Demand3 default_tag
demand3_default = demand3 default_tag default_tag_lawful
