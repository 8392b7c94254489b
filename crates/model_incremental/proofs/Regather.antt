-- Gathers of what gathers wrote, proved of the definitions, for every lawful table of tags. Assumes nothing.
use Prim.Native.Nat.{ℕ, ◌≤◌}
use native.Mathlib.Omega.{arith}
use mathlib.Core.Path.{◌≡◌, refl, sym, ap, ◌∙◌, subst}
use mathlib.Core.Logic.{◌⊎◌, inl, inr}
use mathlib.Core.Bool.{Bool, true}
use mathlib.Core.List.Memᴰ
use mathlib.Core.List.Memᴰ.{head as here}
use mathlib.Core.List.Memᴰ.{tail as there}
use mathlib.Core.List.{List, [], ◌∷◌, ◌++◌, map, Memᴰ as Member}
use lib.ListN.{length}
use Rattle.ordmap.specs.Result.{value, IsAccepted}
use Rattle.ordmap.specs.Gathering.{flat, read_all as readEach}
use Rattle.ordmap.proofs.Results.{accepted_inj, not_refused, is_accepted, accepted-is, accepted_or_refused, value-accepted, value_both, value-bind}
use Rattle.ordmap.proofs.Gathered.{read_all-cons, read_all-append}
use Rattle.model.specs.declared.Kind.{Kind}
use Rattle.model.specs.declared.Mode.TheVariants.{Checked}
use Rattle.model.specs.declared.Refusal.{Refusal}
use Rattle.model.specs.Bytes.{Bytes}
use Rattle.model.specs.Answer.{Answer, accepted, refused}
use Rattle.model.specs.Limits.{u32_max}
use Rattle.model.specs.Tags.{default_tag, Lawful}
use Rattle.model.specs.Report.{Report}
use Rattle.model.specs.Reading.{read_text}
use Rattle.model.specs.Output.{written}
use Rattle.model.specs.Printing.{print_report}
use Rattle.model.specs.Bundle.{Text, contents, well_formed, texts}
use Rattle.model.specs.Gather.{entry_limit, gather_texts, gather_many, gather}
use Rattle.model.specs.Groups.{texts_of, Written}
use Rattle.model.specs.Joined.{joined_report, read_all, starts_agree, checksums_agree, sums_fit}
use Rattle.model.proofs.TagLaws.{default_tag_lawful}
use Rattle.model.proofs.Read.{empty_valid}
use Rattle.model.proofs.ReadBack.{read_text_print}
use Rattle.model.proofs.Demand.{texts-exactly, gather-texts, gather-wrote, gathered-valid}
use Rattle.model.proofs.OneText.{read-alone}
use Rattle.model_incremental.specs.Regather.{Gathered, StandFor, no_file, text_file, output_file, Regather}
use Rattle.model_incremental.proofs.Rejoined.{joined_again, starts_again, checksums_again, sums_again}
use Rattle.model_incremental.proofs.Parts.{Joins, joins_split, read_all-split}
use Rattle.model_incremental.proofs.Folded.{unnumbered, unnumbered_hold}

module _ (tag : Kind → Bytes) (L : Lawful tag) (limit : ℕ) (small : limit ≤ u32_max) where
  abbrev read : Bytes → Answer Report
  read = read_text tag limit

  abbrev gathers : List Text → Answer Report
  gathers ts = gather_texts tag Checked limit ts []

  -- ---- files and texts, group by group

  -- all texts are readable, and the files are read as the joined reports of groups of theirs
  record InGroups (files all : List Bytes) : Type 0 where
    groups : List (List Report)
    files_read : readEach read files ≡ accepted (map joined_report groups)
    all_read : readEach read all ≡ accepted (flat groups)
    starts : (group : List Report) → Member group groups → starts_agree group ≡ true
    checksums : (group : List Report) → Member group groups → checksums_agree group ≡ true

  no_groups : InGroups [] []
  no_groups =
      record {
        groups = [];
        files_read = refl;
        all_read = refl;
        starts = λ g m. absurd (Memᴰ.not-nil m);
        checksums = λ g m. absurd (Memᴰ.not-nil m);
      }

  -- a group more
  more : (file : Bytes) (texts : List Bytes) (group : List Report) → read file ≡ accepted (joined_report group) → readEach read texts ≡ accepted group
      → starts_agree group ≡ true → checksums_agree group ≡ true → (files all : List Bytes) → InGroups files all → InGroups (file ∷ files) (texts ++ all)
  more file texts group r t s c files all G =
      record {
        groups = group ∷ G.groups;
        files_read = rw (r, G.files_read);
        all_read = read_all-append read texts all t G.all_read;
        starts = first starts_agree s G.starts;
        checksums = first checksums_agree c G.checksums;
      }
    where
      first : (test : List Report → Bool) → test group ≡ true → ((g : List Report) → Member g G.groups → test g ≡ true)
          → (g : List Report) → Member g (group ∷ G.groups) → test g ≡ true
      first test p h g (here e) = ap test e ∙ p
      first test p h g (there m) = h g m

  -- reports that are joined alike: what gathers the ones gathers the others
  alike : (ts us : List Text) (rs qs : List Report) → read_all tag limit ts ≡ accepted rs → read_all tag limit us ≡ accepted qs
      → joined_report rs ≡ joined_report qs → starts_agree rs ≡ starts_agree qs → checksums_agree rs ≡ checksums_agree qs → sums_fit rs ≡ sums_fit qs
      → (n : Report) → gathers ts ≡ accepted n → gathers us ≡ accepted n
  alike ts us rs qs r q j s c t n p =
      let (os, G, e) = (texts-exactly tag limit ts n).0 p in
      let o : os ≡ rs = accepted_inj (sym G.readable ∙ r) in
      let h : joined_report os ≡ joined_report qs = ap joined_report o ∙ j in
      (texts-exactly tag limit us n).1 (
        qs,
        record {
          readable = q;
          starts_agree_lem = sym (ap starts_agree o ∙ s) ∙ G.starts_agree_lem;
          checksums_agree_lem = sym (ap checksums_agree o ∙ c) ∙ G.checksums_agree_lem;
          sums_fit_lem = sym (ap sums_fit o ∙ t) ∙ G.sums_fit_lem;
          within_limit = omega (arith, G.within_limit, ap length h);
        },
        e ∙ h,
      )

  -- so the files, gathered, are the texts gathered
  grouped_same : (files all : List Text) → InGroups (contents files) (contents all) → value (gathers files) ≡ value (gathers all)
  grouped_same files all G =
      value_both (gathers files) (gathers all)
      (alike files all (map joined_report G.groups) (flat G.groups) G.files_read G.all_read j s c t)
      (alike all files (flat G.groups) (map joined_report G.groups) G.all_read G.files_read (sym j) (sym s) (sym c) (sym t))
    where
      j : joined_report (map joined_report G.groups) ≡ joined_report (flat G.groups)
      j = joined_again G.groups

      s : starts_agree (map joined_report G.groups) ≡ starts_agree (flat G.groups)
      s = starts_again G.groups G.starts

      c : checksums_agree (map joined_report G.groups) ≡ checksums_agree (flat G.groups)
      c = checksums_again G.groups G.checksums

      t : sums_fit (map joined_report G.groups) ≡ sums_fit (flat G.groups)
      t = sums_again G.groups

  -- ---- groups of texts

  -- a group that is gathered, and its output
  gathered-more : (group : List Text) (report : Report) (output : Bytes) → gathers group ≡ accepted report → output ≡ print_report tag report
      → (files all : List Bytes) → InGroups files all → InGroups (output ∷ files) (contents group ++ all)
  gathered-more group report output p e files all G =
      let (rs, H, f) = (texts-exactly tag limit group report).0 p in
      let (W, h) = gathered-valid tag Checked limit group [] report empty_valid (omega arith) p in
      more output (contents group) rs (ap read e ∙ read_text_print tag L limit report W h small ∙ ap accepted f) H.readable H.starts_agree_lem
      H.checksums_agree_lem files all G

  gathered_groups : (groups : List (List Text)) (outputs : List Bytes) → Gathered tag limit groups outputs
      → InGroups outputs (flat (map contents groups))
  gathered_groups [] (o ∷ os) h = elim h [ ]
  gathered_groups (g ∷ gs) [] h = elim h [ ]
  gathered_groups [] [] h = no_groups
  gathered_groups (g ∷ gs) (o ∷ os) ((report, p, e), h) = gathered-more g report o p e os (flat (map contents gs)) (gathered_groups gs os h)

  -- TEXTS
  pub texts_again : (groups : List (List Text)) (outputs : List Bytes) (outer all : List Text) → Gathered tag limit groups outputs
      → contents outer ≡ outputs → contents all ≡ flat (map contents groups) → value (gathers outer) ≡ value (gathers all)
  texts_again groups outputs outer all h e f = grouped_same outer all (rw (e, f) (gathered_groups groups outputs h))

  -- PARTS: each group of texts that are gathered is
  groups_accepted : (groups : List (List Text)) (rs : List Report) → readEach read (flat (map contents groups)) ≡ accepted rs → Joins limit rs
      → (group : List Text) → Member group groups → IsAccepted (gathers group)
  groups_accepted [] rs p J group m = elim m [ ]
  groups_accepted (g ∷ gs) rs p J group m =
      go (read_all-split read (contents g) (flat (map contents gs)) p) (λ qs q K n. groups_accepted gs qs q K group n) m
    where
      rest : List Bytes
      rest = flat (map contents gs)

      go : (ps : List Report) × (qs : List Report) × (readEach read (contents g) ≡ accepted ps) × (readEach read rest ≡ accepted qs) × (ps ++ qs ≡ rs)
          → ((qs : List Report) → readEach read rest ≡ accepted qs → Joins limit qs → Member group gs → IsAccepted (gathers group))
          → Member group (g ∷ gs) → IsAccepted (gathers group)
      go (ps, qs, p, q, e) ih m = at (joins_split limit ps qs (rw e J)) m
        where
          at : Joins limit ps × Joins limit qs → Member group (g ∷ gs) → IsAccepted (gathers group)
          at (K, M) (here f) =
              is_accepted ((texts-exactly tag limit group (joined_report ps)).1 (
                ps,
                record {
                  readable = ap (read_all tag limit) f ∙ p;
                  starts_agree_lem = K.starts;
                  checksums_agree_lem = K.checksums;
                  sums_fit_lem = K.sums;
                  within_limit = K.fits;
                },
                refl,
              ))
          at (K, M) (there n) = ih qs q M n

  pub all-accepted : (groups : List (List Text)) (all : List Text) → contents all ≡ flat (map contents groups) → IsAccepted (gathers all)
      → (group : List Text) → Member group groups → IsAccepted (gathers group)
  all-accepted groups all e i =
      let (n, p) = accepted-is (gathers all) i in
      let (rs, G, f) = (texts-exactly tag limit all n).0 p in
      groups_accepted groups rs (ap (readEach read) (sym e) ∙ G.readable)
      (record { starts = G.starts_agree_lem; checksums = G.checksums_agree_lem; sums = G.sums_fit_lem; fits = G.within_limit })

  -- ---- rounds

  abbrev Unread : List Bytes → Type 0
  Unread bs = (rs : List Report) → readEach read bs ≡ accepted rs → ⊥

  -- files are read group by group, or neither they nor the texts are all readable
  abbrev Read : List Bytes → List Bytes → Type 0
  Read files all = InGroups files all ⊎ (Unread files × Unread all)

  -- a readable text is a group of its own
  text-more : (text : Bytes) (report : Report) → read text ≡ accepted report
      → (files all : List Bytes) → InGroups files all → InGroups (text ∷ files) (text ∷ all)
  unfolding gather_texts
  text-more text r p files all G =
      let alone : gathers (unnumbered (text ∷ [])) ≡ accepted r = rw (read-alone tag limit Checked text, p) in
      let (rs, H, e) = (texts-exactly tag limit (unnumbered (text ∷ [])) r).0 alone in
      more text (text ∷ []) rs (p ∙ ap accepted e) H.readable H.starts_agree_lem H.checksums_agree_lem files all G

  text-read : (text : Bytes) (files all : List Bytes) → ((r : Report) × (read text ≡ accepted r)) ⊎ ((c : Refusal) × (read text ≡ refused c))
      → Read files all → Read (text ∷ files) (text ∷ all)
  text-read text files all (inl (r, p)) (inl G) = inl (text-more text r p files all G)
  text-read text files all (inl (r, p)) (inr (u, v)) =
      inr (
        (λ rs q. let (x, qs, h, i, e) = read_all-cons read text files q in u qs i),
        (λ rs q. let (x, qs, h, i, e) = read_all-cons read text all q in v qs i),
      )
  text-read text files all (inr (c, p)) s =
      inr (
        (λ rs q. let (x, qs, h, i, e) = read_all-cons read text files q in not_refused (sym h ∙ p)),
        (λ rs q. let (x, qs, h, i, e) = read_all-cons read text all q in not_refused (sym h ∙ p)),
      )

  output-read : (bundle output : Bytes) (words room : ℕ) (inner files all : List Bytes) → entry_limit words ≡ limit
      → gather tag Checked bundle words room ≡ accepted output → Read (texts_of bundle) inner → Read files all → Read (output ∷ files) (inner ++ all)
  output-read bundle output words room inner files all l p s t =
      let (n, w, g, e, h) = gather-wrote tag Checked bundle words room p in
      go n e (ap (λ (k : ℕ). gather_texts tag Checked k (texts bundle) []) (sym l) ∙ g) s t
    where
      go : (n : Report) → output ≡ print_report tag n → gathers (texts bundle) ≡ accepted n → Read (texts_of bundle) inner → Read files all
          → Read (output ∷ files) (inner ++ all)
      go n e g (inr (u, v)) t = let (rs, H, f) = (texts-exactly tag limit (texts bundle) n).0 g in absurd (u rs H.readable)
      go n e g (inl G) (inr (u, v)) =
          inr (
            (λ rs q. let (x, qs, h, i, f) = read_all-cons read output files q in u qs i),
            (λ rs q. let (ps, qs, h, i, f) = read_all-split read inner all q in v qs i),
          )
      go n e g (inl G) (inl H) =
          let same : value (gathers (texts bundle)) ≡ value (gathers (unnumbered inner)) =
          grouped_same (texts bundle) (unnumbered inner) (rw (unnumbered_hold inner) G) in
          let made : gathers (unnumbered inner) ≡ accepted n = value-accepted (gathers (unnumbered inner)) (sym same ∙ ap value g) in
          inl (subst (λ (bs : List Bytes). InGroups (output ∷ files) (bs ++ all)) (unnumbered_hold inner)
          (gathered-more (unnumbered inner) n output made e files all H))

  stand_read : (files all : List Bytes) → StandFor tag limit files all → Read files all
  stand_read files all no_file = inl no_groups
  stand_read files all (text_file text {files = fs} {all = ts} s) = text-read text fs ts (accepted_or_refused (read text)) (stand_read fs ts s)
  stand_read files all (output_file bundle output words room {inner = is} {files = fs} {all = ts} l p s t) =
      output-read bundle output words room is fs ts l p (stand_read (texts_of bundle) is s) (stand_read fs ts t)

  -- FILES, from whatever rounds
  pub files_again : (files all : List Text) → StandFor tag limit (contents files) (contents all) → value (gathers files) ≡ value (gathers all)
  files_again files all s = go (stand_read (contents files) (contents all) s)
    where
      go : Read (contents files) (contents all) → value (gathers files) ≡ value (gathers all)
      go (inl G) = grouped_same files all G
      go (inr (u, v)) =
          value_both (gathers files) (gathers all)
          (λ n p. let (rs, H, e) = (texts-exactly tag limit files n).0 p in absurd (u rs H.readable))
          (λ n p. let (rs, H, e) = (texts-exactly tag limit all n).0 p in absurd (v rs H.readable))

  -- texts stand for themselves, and what bundles' gathers wrote for the bundles' texts
  themselves : (bs : List Bytes) → StandFor tag limit bs bs
  themselves [] = no_file
  themselves (b ∷ bs) = text_file b (themselves bs)

  pub written_stand : (parts outputs : List Bytes) → Written tag limit parts outputs → StandFor tag limit outputs (flat (map texts_of parts))
  written_stand [] (o ∷ os) w = elim w [ ]
  written_stand (p ∷ ps) [] w = elim w [ ]
  written_stand [] [] w = no_file
  written_stand (p ∷ ps) (o ∷ os) ((words, room, l, g), w) = output_file p o words room l g (themselves (texts_of p)) (written_stand ps os w)

-- ---- bundles

module _ (tag : Kind → Bytes) (L : Lawful tag) where
  bundles_again : (outer : Bytes) (all : List Text) (words room : ℕ) → well_formed outer ≡ true
      → StandFor tag (entry_limit words) (texts_of outer) (contents all)
      → value (gather tag Checked outer words room) ≡ value (gather_many tag Checked all words room)
  bundles_again outer all words room w s =
      ap value (gather-texts tag Checked outer words room w)
      ∙ value-bind (gather_texts tag Checked (entry_limit words) (texts outer) []) (gather_texts tag Checked (entry_limit words) all [])
      (λ report. written room (print_report tag report)) (files_again tag L (entry_limit words) (omega arith) (texts outer) all s)

  -- GATHERS OF GATHERS
  pub regather : Regather tag
  regather =
      record {
        joined = joined_again;
        starts = starts_again;
        checksums = checksums_again;
        sums = sums_again;
        same_texts = λ words. texts_again tag L (entry_limit words) (omega arith);
        each_group = λ words. all-accepted tag L (entry_limit words) (omega arith);
        bundled = gather-texts tag;
        same = λ parts outputs outer all words room h w e f.
            bundles_again outer all words room w (rw (e, f) (written_stand tag L (entry_limit words) (omega arith) parts outputs h));
        rounds = bundles_again;
      }

-- under the tags of `RecordKind::as_str`
pub regather_default : Regather default_tag
regather_default = regather default_tag default_tag_lawful
