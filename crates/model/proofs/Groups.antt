-- Gathers of what gathers wrote, the gather of one text, and reading back, proved of the definitions. Assumes nothing.
use Prim.Native.Nat.{ℕ, ◌≤◌}
use native.Mathlib.Omega.{arith}
use mathlib.Core.Path.{◌≡◌, refl, sym, ap, ◌∙◌}
use mathlib.Core.Bool.{true}
use mathlib.Core.List.{List, [], ◌∷◌, map}
use Rattle.ordmap.specs.Result.{bind, value}
use Rattle.ordmap.specs.Keyed.{add_all}
use Rattle.ordmap.specs.Gathering.{flat, times, read_all as readEach}
use Rattle.ordmap.proofs.Results.{value-bind}
use Rattle.ordmap.proofs.Members.{flat-flat}
use Rattle.ordmap.proofs.Gathered.{fitting, read_all-append, gather-value, gather-accepted}
use Rattle.ordmap.proofs.Grouping.{Made, groups_value}
use Rattle.model.specs.declared.Kind.{Kind}
use Rattle.model.specs.declared.Mode.TheVariants.{Checked}
use Rattle.model.specs.Bytes.{Bytes, same_bytes}
use Rattle.model.specs.Answer.{Answer, accepted}
use Rattle.model.specs.Limits.{u32_max}
use Rattle.model.specs.Tags.{default_tag, Lawful}
use Rattle.model.specs.Report.{Entry, Report, compare_keys, entry_key, combine_entries}
use Rattle.model.specs.Reading.{read_text}
use Rattle.model.specs.Printing.{print_report}
use Rattle.model.specs.Bundle.{Text, contents, texts}
use Rattle.model.specs.Gather.{entry_limit, gather_texts}
use Rattle.model.specs.Joined.{joined_report, read_all, one_spelling}
use Rattle.model.specs.Groups.{texts_of, Written, Groups}
use Rattle.model.proofs.KeyOrder.{keys-order}
use Rattle.model.proofs.TagLaws.{default_tag_lawful}
use Rattle.model.proofs.Entries.{entries_keyed}
use Rattle.model.proofs.Read.{empty_valid}
use Rattle.model.proofs.ReadBack.{read_text_print}
use Rattle.model.proofs.Demand.{full, place, bytes_of, gather-same, texts-exactly, texts-order, gather-acceptable, gather-alike, gathered-valid, wrote_back}
use Rattle.model.proofs.Regroup.{entries_grouped}
use Rattle.model.proofs.OneText.{gather-one}

module _ (tag : Kind → Bytes) (L : Lawful tag) (limit : ℕ) (small : limit ≤ u32_max) where
  -- ---- lists of texts

  abbrev read : Bytes → Answer Report
  read = read_text tag limit

  abbrev joined_up : List Entry → List Entry → Answer (List Entry)
  joined_up es m = add_all entry_key compare_keys (combine_entries Checked) es m

  -- what a gather of texts is worth, by what they hold alone
  abbrev worth : List Bytes → Answer Report
  worth bs = bind (readEach read bs) (λ rs. bind (joined_up (flat rs) []) (fitting entry_key compare_keys (combine_entries Checked) bytes_of read full limit place))

  pub texts_worth : (ts : List Text) → value (gather_texts tag Checked limit ts []) ≡ value (worth (contents ts))
  texts_worth ts =
      ap value (gather-same tag Checked limit ts [])
      ∙ gather-value entry_key compare_keys (combine_entries Checked) bytes_of read full limit place ts [] (omega arith)

  -- each group of texts is gathered to the report beside it
  abbrev Gathered : List (List Text) → List Report → Type 0
  Gathered [] [] = Unit {0}
  Gathered [] (j ∷ js) = ⊥
  Gathered (ts ∷ tss) [] = ⊥
  Gathered (ts ∷ tss) (j ∷ js) = (gather_texts tag Checked limit ts [] ≡ accepted j) × Gathered tss js

  -- one group: its reports, what they add up to, and that this is read back
  record One (ts : List Text) (j : Report) : Type 0 where
    reports : List Report
    read_to : read_all tag limit ts ≡ accepted reports
    adds : joined_up (flat reports) [] ≡ accepted j
    back : read (print_report tag j) ≡ accepted j

  one : (ts : List Text) (j : Report) → gather_texts tag Checked limit ts [] ≡ accepted j → One ts j
  one ts j p =
      let (rs, r, a, h) = (gather-accepted entry_key compare_keys (combine_entries Checked) bytes_of read full limit place ts j).0
      (sym (gather-same tag Checked limit ts []) ∙ p) in
      let (J, i) = gathered-valid tag Checked limit ts [] j empty_valid (omega arith) p in
      record { reports = rs; read_to = r; adds = a; back = read_text_print tag L limit j J i small }

  abbrev made : List (List Entry) → List Report → Type 0
  made ess js = Made entry_key compare_keys (combine_entries Checked) keys-order (entries_keyed Checked) (entries_grouped Checked) ess js

  -- all groups
  record Some (tss : List (List Text)) (js : List Report) : Type 0 where
    reports : List (List Report)
    read_to : readEach read (flat (map contents tss)) ≡ accepted (flat reports)
    adds : made (map (λ rs. flat rs) reports) js
    back : readEach read (map (print_report tag) js) ≡ accepted js

  some_groups : (tss : List (List Text)) (js : List Report) → Gathered tss js → Some tss js
  some_groups [] (j ∷ js) g = elim g [ ]
  some_groups (ts ∷ tss) [] g = elim g [ ]
  some_groups [] [] g = record { reports = []; read_to = refl; adds = tt; back = refl }
  some_groups (ts ∷ tss) (j ∷ js) g =
      let o : One ts j = one ts j g.0 in
      let r : Some tss js = some_groups tss js g.1 in
      record {
        reports = o.reports ∷ r.reports;
        read_to = read_all-append read (contents ts) (flat (map contents tss)) o.read_to r.read_to;
        adds = (o.adds, r.adds);
        back = rw (o.back, r.back);
      }

  -- GROUPS of texts: their reports, printed and gathered, are what all the texts give
  groups_texts : (tss : List (List Text)) (js : List Report) → Gathered tss js
      → value (worth (map (print_report tag) js)) ≡ value (worth (flat (map contents tss)))
  groups_texts tss js g =
      let S : Some tss js = some_groups tss js g in
      rw (S.back, S.read_to)
      (value-bind (joined_up (flat js) []) (joined_up (flat (flat S.reports)) [])
      (fitting entry_key compare_keys (combine_entries Checked) bytes_of read full limit place)
      (groups_value entry_key compare_keys (combine_entries Checked) keys-order (entries_keyed Checked) (entries_grouped Checked) (map (λ rs. flat rs) S.reports) js [] tt S.adds
      ∙ ap (λ (es : List Entry). value (joined_up es [])) (flat-flat S.reports)))

  -- ---- bundles

  -- what the groups' gathers wrote is their reports, printed
  reports_of : (groups outs : List Bytes) → Written tag limit groups outs → (js : List Report) × (outs ≡ map (print_report tag) js) × Gathered (map texts groups) js
  reports_of [] (o ∷ os) w = elim w [ ]
  reports_of (g ∷ gs) [] w = elim w [ ]
  reports_of [] [] w = ([], refl, tt)
  reports_of (g ∷ gs) (o ∷ os) ((words, room, l, p), w) =
      let (rs, A, e) = gather-acceptable tag g words room p in
      let (js, f, k) = reports_of gs os w in
      let q : gather_texts tag Checked (entry_limit words) (texts g) [] ≡ accepted (joined_report rs) =
      (texts-exactly tag (entry_limit words) (texts g) (joined_report rs)).1 (rs, A.gatherable, refl) in
      (joined_report rs ∷ js, (λ i. e i ∷ f i), (ap (λ (n : ℕ). gather_texts tag Checked n (texts g) []) (sym l) ∙ q, k))

  map-map : (groups : List Bytes) → map contents (map texts groups) ≡ map texts_of groups
  map-map [] = refl
  map-map (g ∷ gs) = ap (λ (r : List (List Bytes)). texts_of g ∷ r) (map-map gs)

  groups_gathered : (groups outs : List Bytes) → Written tag limit groups outs → value (worth outs) ≡ value (worth (flat (map texts_of groups)))
  groups_gathered groups outs w =
      let (js, e, g) = reports_of groups outs w in
      ap (λ (bs : List Bytes). value (worth bs)) e
      ∙ groups_texts (map texts groups) js g
      ∙ ap (λ (bss : List (List Bytes)). value (worth (flat bss))) (map-map groups)

  -- a bundle of what the groups' gathers wrote, and the texts of all groups
  pub parts_worth : (groups outs : List Bytes) (parts : Bytes) → Written tag limit groups outs → texts_of parts ≡ outs
      → value (gather_texts tag Checked limit (texts parts) []) ≡ value (worth (flat (map texts_of groups)))
  parts_worth groups outs parts w t =
      texts_worth (texts parts) ∙ ap (λ (bs : List Bytes). value (worth bs)) t ∙ groups_gathered groups outs w

  -- the same texts in any order
  pub order_worth : (ts : List Text) (bs : List Bytes) → ((bytes : Bytes) → times same_bytes bytes (contents ts) ≡ times same_bytes bytes bs)
      → ((reports : List Report) → read_all tag limit ts ≡ accepted reports → one_spelling reports ≡ true)
      → value (gather_texts tag Checked limit ts []) ≡ value (worth bs)
  order_worth ts bs s o =
      texts-order tag limit ts (unnumbered bs) (λ b. s b ∙ ap (times same_bytes b) (sym (held bs))) o
      ∙ texts_worth (unnumbered bs)
      ∙ ap (λ (l : List Bytes). value (worth l)) (held bs)
    where
      unnumbered : List Bytes → List Text
      unnumbered bs = map (λ b. record { index = 0; bytes = b }) bs

      held : (bs : List Bytes) → contents (unnumbered bs) ≡ bs
      held [] = refl
      held (b ∷ bs) = ap (λ (l : List Bytes). b ∷ l) (held bs)

module _ (tag : Kind → Bytes) (L : Lawful tag) where
  -- the entry limit is small
  module _ (words : ℕ) where
    small : entry_limit words ≤ u32_max
    small = omega arith

    parts : (gs os : List Bytes) (bundle : Bytes) → Written tag (entry_limit words) gs os → texts_of bundle ≡ os
        → value (gather_texts tag Checked (entry_limit words) (texts bundle) []) ≡ value (worth tag L (entry_limit words) small (flat (map texts_of gs)))
    parts = parts_worth tag L (entry_limit words) small

    whole_in_order : (gs : List Bytes) (bundle : Bytes) → texts_of bundle ≡ flat (map texts_of gs)
        → value (gather_texts tag Checked (entry_limit words) (texts bundle) []) ≡ value (worth tag L (entry_limit words) small (flat (map texts_of gs)))
    whole_in_order gs bundle x =
        texts_worth tag L (entry_limit words) small (texts bundle) ∙ ap (λ (bs : List Bytes). value (worth tag L (entry_limit words) small bs)) x

  -- GATHERING IN PARTS
  pub groups : Groups tag
  groups =
      record {
        in_order = λ gs os ps whole words room w v t u x.
            gather-alike tag ps whole words words room v u refl (parts words gs os ps w t ∙ sym (whole_in_order words gs whole x));
        any_order = λ gs os ps whole words room w v t u s o.
            gather-alike tag ps whole words words room v u refl
            (parts words gs os ps w t ∙ sym (order_worth tag L (entry_limit words) (small words) (texts whole) (flat (map texts_of gs)) s o));
        one_text = gather-one tag;
        reads_back = wrote_back tag L;
      }

-- under the tags of `RecordKind::as_str`
pub groups_default : Groups default_tag
groups_default = groups default_tag default_tag_lawful
