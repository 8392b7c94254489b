-- Cutting before or after adding, proved of the definitions for both filters, with every table of tags that loads. Assumes nothing.
use Prim.Native.Nat.{ℕ, ◌≤◌}
use native.Mathlib.Nat.{le_refl}
use native.Mathlib.Omega.{arith}
use mathlib.Core.Path.{◌≡◌, refl, sym, ap, ◌∙◌, subst}
use mathlib.Core.Bool.{Bool, true, false}
use mathlib.Core.List.Memᴰ.{head as here}
use mathlib.Core.List.Memᴰ.{tail as there}
use mathlib.Core.List.{List, [], ◌∷◌, map, Memᴰ as Member}
use lib.Dec.{leb}
use lib.ListN.{length, take}
use borrow.Author.Tests.{le-leb}
use Rattle.ordmap.specs.Gathering.{read_all as readEach}
use Rattle.ordmap.proofs.Results.{accepted_inj, not_accepted}
use Rattle.ordmap.proofs.Gathered.{read_all-cons}
use Rattle.model.specs.declared.Bound.{Bound}
use Rattle.model.specs.declared.Fault.TheVariants.{MalformedRanges}
use Rattle.model.specs.declared.Kind.{Kind}
use Rattle.model.specs.declared.Mode.TheVariants.{Checked}
use Rattle.model.specs.declared.Range.{Range}
use Rattle.std.specs.Prelude.{if◌then◌else◌}
use Rattle.model.specs.Lists.{filter}
use Rattle.model.specs.Bytes.{Bytes}
use Rattle.model.specs.Answer.{Answer, accepted, ◌>>=◌, refuse, refuse_length}
use Rattle.model.specs.Limits.{u32_max}
use Rattle.model.specs.Tags.{Lawful}
use Rattle.model.specs.Report.{Item, Report}
use Rattle.model.specs.Reading.{read_text}
use Rattle.model.specs.Output.{written}
use Rattle.model.specs.Printing.{sections, print_sections, print_report}
use Rattle.model.specs.Ranges.{well_formed_ranges}
use Rattle.model.specs.Filter.{filter_items, filter_section, held_functions, filter_text}
use Rattle.model.specs.Bundle.{well_formed, texts}
use Rattle.model.specs.Gather.{entry_limit, gather}
use Rattle.model.specs.Groups.{texts_of}
use Rattle.model.specs.Joined.{joined_report}
use Rattle.model.specs.Valid.{Valid}
use Rattle.model.specs.Demand.{Gatherable, Acceptable}
use Rattle.model.proofs.TagLaws.{default_tag_lawful}
use Rattle.model.proofs.TagTableLaws.{loads_lawful}
use Rattle.model.proofs.Read.{read_text-valid}
use Rattle.model.proofs.Demand.{read-valid, gather-writes, gather-acceptable, demand3}
use Rattle.cutting.specs.Cutting.{is_line_or_branch, lines_and_branches, held_lines_and_branches, cut_by, cut_report, JoinedCut, Pairwise, CutText, Filtered, BothWays, Cutting, CuttingTables}
use Rattle.cutting.proofs.CutItems.{kept-sub, kept-counts, held-sub, filter-keeps}
use Rattle.cutting.proofs.CutRead.{KeepsSome, KeepsHeld, cut_sub, cut_read, cut_counts}
use Rattle.cutting.proofs.CutJoin.{CutTo, no_reports, more_reports, cut_subs, joined-counts, cut_starts, cut_checksums, cut_sums, cut_shorter}

-- ---- reports, cut by any filter that keeps some of each section's items, and of its lines and branches those that the ranges hold

module _ (ranges : List Range) (keep : List Item → List Item) (some : KeepsSome keep) (held : KeepsHeld ranges keep) where
  reports_cut : (rs : List Report) → ((r : Report) → Member r rs → Valid r) → CutTo ranges (map (cut_by keep) rs) rs
  reports_cut [] h = no_reports
  reports_cut (r ∷ rs) h =
      more_reports (cut_sub keep some r (h r (here refl))) (cut_counts ranges keep some held r (h r (here refl))) (reports_cut rs (λ x i. h x (there i)))

  -- REPORTS
  pub reports_joined : (rs : List Report) → ((r : Report) → Member r rs → Valid r) → JoinedCut ranges rs (map (cut_by keep) rs)
  reports_joined rs h =
      let C : CutTo ranges (map (cut_by keep) rs) rs = reports_cut rs h in
      record {
        starts = cut_starts (cut_subs C);
        checksums = cut_checksums (cut_subs C);
        sums = cut_sums (cut_subs C);
        entries = cut_shorter (cut_subs C);
        held = joined-counts C;
      }

-- the filter keeps so, by either bound
module _ (bound : Bound) (ranges : List Range) where
  pub filter_some : KeepsSome (filter_items bound ranges)
  filter_some items s = rw (filter-keeps bound ranges items) (kept-sub ranges (held_functions bound ranges) (held-sub bound ranges) items s)

  pub filter-held : KeepsHeld ranges (filter_items bound ranges)
  filter-held items s h =
      ap (filter is_line_or_branch) (filter-keeps bound ranges items) ∙ kept-counts ranges (held_functions bound ranges) (held-sub bound ranges) items s h

  report-counts : (r : Report) → Valid r → lines_and_branches (cut_report bound ranges r) ≡ held_lines_and_branches ranges r
  report-counts r R = cut_counts ranges (filter_items bound ranges) filter_some filter-held r R

  filtered-joined : (rs : List Report) → ((r : Report) → Member r rs → Valid r) → JoinedCut ranges rs (map (cut_report bound ranges) rs)
  filtered-joined rs h = reports_joined ranges (filter_items bound ranges) filter_some filter-held rs h

-- ---- written bytes

written_is : (room : ℕ) (bytes : Bytes) {out : Bytes} → written room bytes ≡ accepted out → out ≡ bytes
unfolding written
written_is room bytes {out} p = go (leb (length bytes) room) p
  where
    go : (t : Bool) → ◌≡◌ {A = Answer Bytes} (if t then accepted bytes else refuse_length (length bytes)) (accepted out) → out ≡ bytes
    go true q = sym (accepted_inj q)
    go false q = absurd (not_accepted q)

pub written-fits : (room : ℕ) (bytes : Bytes) → length bytes ≤ room → written room bytes ≡ accepted bytes
unfolding written
written-fits room bytes h = rw (le-leb (length bytes) room h)

-- ---- texts

module _ (tag : Kind → Bytes) (L : Lawful tag) (bound : Bound) where
  -- what the filter prints of a report
  abbrev printed : List Range → Report → Bytes
  printed ranges r = print_sections tag (map (filter_section bound ranges) (sections r))

  filter-writes : (slice : List Range) (used words room : ℕ) (text : Bytes) (r : Report) → well_formed_ranges slice used ≡ true
      → read_text tag (entry_limit words) text ≡ accepted r → filter_text tag bound text slice used words room ≡ written room (printed (take used slice) r)
  unfolding filter_text
  filter-writes slice used words room text r w p = rw (w, p)

  -- a call that was accepted was lent a well-formed slice
  filter_formed : (slice : List Range) (used words room : ℕ) (text out : Bytes) → filter_text tag bound text slice used words room ≡ accepted out
      → well_formed_ranges slice used ≡ true
  unfolding filter_text
  filter_formed slice used words room text out p = go (well_formed_ranges slice used) p
    where
      go : (t : Bool)
          → ◌≡◌ {A = Answer Bytes}
          (if t then (read_text tag (entry_limit words) text >>= λ report. written room (printed (take used slice) report)) else refuse MalformedRanges) (accepted out)
          → t ≡ true
      go true q = refl
      go false q = absurd (not_accepted q)

  module _ (ranges : List Range) (limit : ℕ) (small : limit ≤ u32_max) (text : Bytes) (r : Report) (read : read_text tag limit text ≡ accepted r) where
    cut_reads : read_text tag limit (printed ranges r) ≡ accepted (cut_report bound ranges r)
    unfolding filter_section
    cut_reads = let (R, n) = read_text-valid tag limit text read in cut_read (filter_items bound ranges) (filter_some bound ranges) tag L limit r R n small

    cut_writes : (slice : List Range) (used words room : ℕ) → well_formed_ranges slice used ≡ true → take used slice ≡ ranges → entry_limit words ≡ limit
        → filter_text tag bound text slice used words room ≡ written room (printed ranges r)
    cut_writes slice used words room w e l =
        filter-writes slice used words room text r w (ap (λ (k : ℕ). read_text tag k text) l ∙ read) ∙ ap (λ (x : List Range). written room (printed x r)) e

    -- TEXTS: filtered and read back
    pub text-filtered : Filtered tag bound ranges limit text (cut_report bound ranges r)
    text-filtered =
        record {
          out = printed ranges r;
          writes = λ slice used words room w e l h. cut_writes slice used words room w e l ∙ written-fits room (printed ranges r) h;
          reads = cut_reads;
        }

    -- what some call wrote
    cut_text : (out : Bytes) → CutText tag bound ranges limit text out → read_text tag limit out ≡ accepted (cut_report bound ranges r)
    cut_text out c =
        let well : well_formed_ranges c.slice c.used ≡ true = filter_formed c.slice c.used c.words c.room text out c.wrote in
        let writes : filter_text tag bound text c.slice c.used c.words c.room ≡ written c.room (printed ranges r) =
        cut_writes c.slice c.used c.words c.room well c.by_ranges c.one_limit in
        ap (read_text tag limit) (written_is c.room (printed ranges r) (sym writes ∙ c.wrote)) ∙ cut_reads

  texts_cut : (ranges : List Range) (limit : ℕ) → limit ≤ u32_max → (ts outs : List Bytes) (rs : List Report)
      → readEach (read_text tag limit) ts ≡ accepted rs → Pairwise (CutText tag bound ranges limit) ts outs
      → readEach (read_text tag limit) outs ≡ accepted (map (cut_report bound ranges) rs)
  texts_cut ranges limit m [] (o ∷ os) rs p C = elim C [ ]
  texts_cut ranges limit m (t ∷ ts) [] rs p C = elim C [ ]
  texts_cut ranges limit m [] [] rs p C = rw (← (accepted_inj p))
  texts_cut ranges limit m (t ∷ ts) (o ∷ os) rs p (c, C) =
      let (r, qs, i, j, h) = read_all-cons (read_text tag limit) t ts p in
      rw (← h) (rw (cut_text ranges limit m t r i o c, texts_cut ranges limit m ts os qs j C))

  -- ---- bundles

  module _ (bundle whole parts : Bytes) (ranges : List Range) (words room : ℕ) (gathered : gather tag Checked bundle words room ≡ accepted whole)
      (cut : Pairwise (CutText tag bound ranges (entry_limit words)) (texts_of bundle) (texts_of parts)) (well : well_formed parts ≡ true) where
    abbrev limit : ℕ
    limit = entry_limit words

    both_ways : (reports : List Report) × Acceptable tag bundle words room reports × (whole ≡ print_report tag (joined_report reports))
        → BothWays tag bound ranges limit whole parts
    both_ways (rs, A, e) =
        record {
          cut_first_lem = added;
          gathers = λ words' room' l h. gather-writes tag parts words' room' cs (acceptable words' room' l h);
          cut_first_report = joined_report cs;
          cut_first_reads = ((demand3 tag L).reads_back parts words (length added) cs (acceptable words (length added) refl (le_refl _)) added refl words (length added) refl (le_refl _)).0;
          added_first_report = cut_report bound ranges (joined_report rs);
          added_first_lem = text-filtered ranges limit (omega arith) whole (joined_report rs) whole-read;
          same_counts = J.held ∙ sym (report-counts bound ranges (joined_report rs) (read_text-valid tag limit whole whole-read).0);
        }
      where
        cs : List Report
        cs = map (cut_report bound ranges) rs

        added : Bytes
        added = print_report tag (joined_report cs)

        G : Gatherable tag limit (texts bundle) rs
        G = A.gatherable

        J : JoinedCut ranges rs cs
        J = filtered-joined bound ranges rs (read-valid tag limit (texts_of bundle) rs G.readable)

        whole-read : read_text tag limit whole ≡ accepted (joined_report rs)
        whole-read = ((demand3 tag L).reads_back bundle words room rs A whole e words (length whole) refl (le_refl _)).0

        parts_join : Gatherable tag limit (texts parts) cs
        parts_join =
            record {
              readable = texts_cut ranges limit (omega arith) (texts_of bundle) (texts_of parts) rs G.readable cut;
              starts_agree_lem = J.starts G.starts_agree_lem;
              checksums_agree_lem = J.checksums G.checksums_agree_lem;
              sums_fit_lem = J.sums G.sums_fit_lem;
              within_limit = omega (arith, J.entries, G.within_limit);
            }

        acceptable : (words' room' : ℕ) → entry_limit words' ≡ limit → length added ≤ room' → Acceptable tag parts words' room' cs
        acceptable words' room' l h =
            record {
              well_formed_lem = well;
              gatherable = subst (λ (k : ℕ). Gatherable tag k (texts parts) cs) (sym l) parts_join;
              within_room = h;
            }

    -- BUNDLES
    pub bundles_cut : BothWays tag bound ranges limit whole parts
    bundles_cut = both_ways (gather-acceptable tag bundle words room gathered)

  -- CUTTING BEFORE OR AFTER ADDING
  pub cutting : Cutting tag bound
  cutting =
      record {
        same = λ bundle whole parts ranges words room gathered cut well. bundles_cut bundle whole parts ranges words room gathered cut well;
        filters = λ ranges words text report p. text-filtered ranges (entry_limit words) (omega arith) text report p;
        counts = λ limit ranges text report p. report-counts bound ranges report (read_text-valid tag limit text p).0;
        joined = λ limit ranges ts reports p. filtered-joined bound ranges reports (read-valid tag limit ts reports p);
      }

-- and with every table of tags
pub cutting_tables : CuttingTables
cutting_tables =
    record {
      default = λ bound. cutting _ default_tag_lawful bound;
      lent = λ table tag loads bound. cutting tag (loads_lawful table tag loads) bound;
    }
