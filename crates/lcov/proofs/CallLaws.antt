-- The calls: what is refused, and what is printed. Assumes nothing.
use Rattle.std.specs.Prelude.{Result, Ok, Err}
use Prim.Native.Nat.{ℕ, ◌+◌, ◌*◌, ◌/◌, ◌≤◌, ◌<◌, min}
use native.Mathlib.Omega.{arith}
use mathlib.Core.Path.{◌≡◌, refl, sym, ap, subst, ◌∙◌}
use mathlib.Core.Bool.{Bool, true, false}
use mathlib.Core.List.{List, [], ◌++◌, map}
use lib.ListN.{length, take, drop, take-append-drop}
use Rattle.model.specs.declared.Kind.{Kind}
use Rattle.model.specs.declared.Fault.{Fault}
use Rattle.model.specs.declared.Fault.TheVariants.{MalformedRanges}
use Rattle.model.specs.declared.Mode.{Mode}
use Rattle.model.specs.declared.Mode.TheVariants.{Checked}
use Rattle.model.specs.declared.Bound.{Bound}
use Rattle.model.specs.declared.Range.{Range}
use Rattle.model.specs.declared.Refusal.{Refusal}
use Rattle.model.specs.Bytes.{Bytes}
use Rattle.model.specs.Limits.{max_entries}
use Rattle.model.specs.Answer.{Answer, accepted, refused, unplaced, refuse, ◌>>=◌}
use Rattle.model.specs.TagTable.{load_tags, tagged}
use Rattle.tag_table.specs.Loading.{LoadedTags, LoadedAs}
use Rattle.tag_table.specs.declared.tags.Tags.{Tags}
use Rattle.tag_table.specs.Tags.{tag_of}
use Rattle.model.specs.Report.{Report}
use Rattle.model.specs.Reading.{read_text}
use Rattle.model.specs.Printing.{sections, print_sections, print_report}
use Rattle.model.specs.Ranges.{well_formed_ranges}
use Rattle.model.specs.Filter.{filter_section, filter_text}
use Rattle.model.specs.Output.{written, output_after}
use Rattle.model.specs.Calls.{call_values, ValueCall, WriteCall, call_answer, length_answer}
use Rattle.model.proofs.CallLaws.{write_called}
use Rattle.model.specs.Gather.{entry_limit, read_and_print, gather_bundle, gather}
use Rattle.table_section.specs.Sections.{entries_at}
use Rattle.section.specs.Table.{Table}
use Rattle.section.specs.Reading.{capacity}
use Rattle.report_parser.specs.declared.TextRead.{TextRead as TextSizes}
use Rattle.report_parser.specs.Reader.{TextRead}
use Rattle.model_totals.specs.Totals.{page, totals}
use Rattle.scratch_layout.specs.Layout.{index_at, spare_at}
use Rattle.joined_table.specs.Gathering.{seen_bundle, HeldBundle, BundleGathered}
use Rattle.text_choice.specs.Revisions.{gather_highest, gather_revisions}
use Rattle.lcov.specs.Printed.{printed_by}
use Rattle.joined_table.proofs.OneLaws.{read_table}

-- ---- answers

-- what a call hands back and leaves in the output, as its answer says
abbrev Told : Answer Bytes → Bytes → Bytes → Result ℕ Refusal → Type 0
Told answer out out' r = (r ≡ length_answer answer) × (out' ≡ output_after answer out)

told_refused : (answer : Answer Bytes) (r : Refusal) (out : Bytes) → refused r ≡ answer → Told answer out out (Err r)
unfolding length_answer output_after
told_refused answer r out is = rw (← is) (refl, refl)

told_as : (a b : Answer Bytes) (out out' : Bytes) (r : Result ℕ Refusal) → a ≡ b → Told a out out' r → Told b out out' r
told_as a b out out' r e t = rw e at t

pub called : {answer : Answer Bytes} {out out' : Bytes} {r : Result ℕ Refusal} → Told answer out out' r → WriteCall answer out out' r
called {answer} {out} {out'} {r} t = write_called answer out out' r t.0 t.1

-- a table can be printed: it is in place, and behind its index there is room to sort functions
abbrev Ready : Bytes → List ℕ → ℕ → ℕ → ℕ → ℕ → Type 0
Ready text ws index spare used n =
    (Table text ws index used n × (n ≤ max_entries)) × ((index + used ≤ spare) × (spare + n + n ≤ length ws))

module _ (text ws : List ℕ) (words index spare limit used n : ℕ) (is : limit ≡ entry_limit words) (long : length ws ≡ words) (at-index : index ≡ index_at limit)
    (at-spare : spare ≡ spare_at limit) where
  ready : Table text ws index used n → used ≤ capacity limit → n ≤ limit → Ready text ws index spare used n
  ready t h m = ((t, omega arith), (omega arith, omega arith))

-- ---- a bundle gathered

-- the words hold what was gathered, and there are as many as before
module _ (made : Answer Report) (bundle : Bytes) (words : ℕ) (ws : List ℕ) (got : Result ℕ Refusal) (g : BundleGathered made bundle ws (entry_limit words) got)
    (long : length ws ≡ words) where
  pub gathered-held : HeldBundle bundle ws (entry_limit (length ws)) got
  gathered-held = rw long g.held

  pub gathered_called : (print : Report → Bytes) (out out' : Bytes) (r : Result ℕ Refusal) (answer : Answer Bytes) → answer ≡ printed_by print made (length out)
      → WriteCall (printed_by print (seen_bundle bundle ws (entry_limit (length ws)) got) (length out)) out out' r → WriteCall answer out out' r
  gathered_called print out out' r answer means c =
      let seen : seen_bundle bundle ws (entry_limit (length ws)) got ≡ made = rw long g.is in
      rw means (rw seen at c)

pub gather_means : (tag : Kind → Bytes) (mode : Mode) (bundle : Bytes) (words : ℕ) (out : Bytes)
    → gather tag mode bundle words (length out) ≡ printed_by (print_report tag) (gather_bundle tag mode bundle words) (length out)
unfolding gather
gather_means tag mode bundle words out = refl

pub totals_means : (tag : Kind → Bytes) (bundle : Bytes) (words : ℕ) (out : Bytes) → totals tag bundle words (length out) ≡ printed_by page (gather_bundle tag Checked bundle words) (length out)
unfolding totals
totals_means tag bundle words out = refl

pub revisions_means : (tag : Kind → Bytes) (bundle : Bytes) (words : ℕ) (out : Bytes)
    → gather_revisions tag bundle words (length out) ≡ printed_by (print_report tag) (gather_highest tag bundle words) (length out)
unfolding gather_revisions
revisions_means tag bundle words out = refl

-- what the words hold is printed
module _ (print : Report → Bytes) (bundle : Bytes) (ws : List ℕ) (got : Result ℕ Refusal) (held : HeldBundle bundle ws (entry_limit (length ws)) got) (out : Bytes) where
  abbrev printing : Answer Bytes
  printing = printed_by print (seen_bundle bundle ws (entry_limit (length ws)) got) (length out)

  pub joined-refused : (r : Refusal) → got ≡ Err r → Told printing out out (Err r)
  joined-refused r e = told_refused printing r out (rw e)

  module _ (n : ℕ) (e : got ≡ Ok n) (limit : ℕ) (is : limit ≡ entry_limit (length ws)) (index : ℕ) (at-index : index ≡ index_at limit) where
    held-table : Table bundle ws (index_at (entry_limit (length ws))) n n × (n ≤ entry_limit (length ws))
    held-table = rw e at held

    pub joined-table : Table bundle ws index n n × (n ≤ max_entries)
    joined-table = (rw (at-index, is) held-table.0, omega (arith, held-table.1))

    pub joined_ready : (spare : ℕ) → spare ≡ spare_at limit → Ready bundle ws index spare n n
    joined_ready spare at-spare =
        ready bundle ws (length ws) index spare limit n n is refl at-index at-spare joined-table.0 (omega (arith, held-table.1)) (omega (arith, held-table.1))

    pub joined-printed : (out' : Bytes) (r : Result ℕ Refusal) → Told (written (length out) (print (entries_at bundle ws index n))) out out' r → Told printing out out' r
    joined-printed out' r t = told_as (written (length out) (print (entries_at bundle ws index n))) printing out out' r (rw (e, at-index, is)) t

-- ---- one text

-- the answer of a call that reads a text and prints what it makes of the report
abbrev read_then : (tag : Kind → Bytes) → (Report → Bytes) → Bytes → ℕ → Bytes → Answer Bytes
read_then tag print text words out = printed_by print (read_text tag (entry_limit words) text) (length out)

pub read_means : (tag : Kind → Bytes) (text : Bytes) (words : ℕ) (out : Bytes) → read_and_print tag text words (length out) ≡ read_then tag (print_report tag) text words out
unfolding read_and_print
read_means tag text words out = refl

module _ (tag : Kind → Bytes) (text : Bytes) (words limit : ℕ) (is : limit ≡ entry_limit words) (ws : List ℕ) (index : ℕ) (got : Result TextSizes Refusal)
    (t : TextRead tag text ws index limit 0 got) where
  pub reading_ready : (sizes : TextSizes) → got ≡ Ok sizes → length ws ≡ words → index ≡ index_at limit → (spare : ℕ) → spare ≡ spare_at limit
      → Ready text ws index spare sizes.used sizes.kept
  reading_ready sizes e long at-index spare at-spare =
      let held = rw e at t.held in
      ready text ws words index spare limit sizes.used sizes.kept is long at-index at-spare (read_table tag text ws index limit 0 sizes.kept sizes.used (rw e at t)) held.1 held.2

  module _ (print : Report → Bytes) (out : Bytes) (answer : Answer Bytes) (means : answer ≡ read_then tag print text words out) where
    pub reading_refused : (r : Refusal) → got ≡ Err r → Told answer out out (Err r)
    reading_refused r e =
        let read : refused r ≡ read_text tag limit text = rw e at t.is in
        told_refused answer r out (sym (means ∙ rw (← is, ← read)))

    pub reading_printed : (sizes : TextSizes) → got ≡ Ok sizes → (out' : Bytes) (r : Result ℕ Refusal)
        → Told (written (length out) (print (entries_at text ws index sizes.kept))) out out' r → Told answer out out' r
    reading_printed sizes e out' r h =
        let read : accepted (entries_at text ws index sizes.kept) ≡ read_text tag limit text = rw e at t.is in
        told_as (written (length out) (print (entries_at text ws index sizes.kept))) answer out out' r (sym (means ∙ rw (← is, ← read))) h

-- ---- one text filtered

module _ (tag : Kind → Bytes) (bound : Bound) (text : Bytes) (slice : List Range) (used words : ℕ) (out : Bytes) where
  pub filter_means : well_formed_ranges slice used ≡ true
      → filter_text tag bound text slice used words (length out)
      ≡ read_then tag (λ report. print_sections tag (map (filter_section bound (take used slice)) (sections report))) text words out
  unfolding filter_text
  filter_means well = rw well

  pub filter_bad : (r : Refusal) → well_formed_ranges slice used ≡ false → r ≡ unplaced MalformedRanges
      → Told (filter_text tag bound text slice used words (length out)) out out (Err r)
  unfolding filter_text
  filter_bad r bad e = told_refused (filter_text tag bound text slice used words (length out)) r out (rw (bad, e))

-- ---- a lent table of tags

module _ (table : Bytes) (got : Result Tags Fault) (l : LoadedAs table got) where
  loaded : (tags : Tags) → got ≡ Ok tags → load_tags table ≡ accepted (tag_of tags)
  loaded tags e = let τ : LoadedTags table tags = rw e at l in τ.is

  unloaded : (fault : Fault) → got ≡ Err fault → load_tags table ≡ refuse fault
  unloaded fault e = rw e at l

  module _ (out : Bytes) (call : (Kind → Bytes) → Answer Bytes) where
    pub tags_refused : (fault : Fault) (r : Result ℕ Refusal) → got ≡ Err fault → r ≡ Err (unplaced fault) → WriteCall (tagged table call) out out r
    tags_refused fault r e q = rw q (called (told_refused (tagged table call) (unplaced fault) out (rw (unloaded fault e))))

    pub tags_called : (tags : Tags) (out' : Bytes) (r : Result ℕ Refusal) → got ≡ Ok tags → WriteCall (call (tag_of tags)) out out' r → WriteCall (tagged table call) out out' r
    tags_called tags out' r e c = rw (loaded tags e) c

  -- the same for a call that returns a value
  module _ {A : Type 0} (call : (Kind → Bytes) → Answer A) where
    pub value_refused : (fault : Fault) (r : Result A Refusal) → got ≡ Err fault → r ≡ Err (unplaced fault) → ValueCall (tagged table call) r
    unfolding call_values
    value_refused fault r e q = rw (q, unloaded fault e)

    pub value_tagged : (tags : Tags) (r : Result A Refusal) → got ≡ Ok tags → ValueCall (call (tag_of tags)) r → ValueCall (tagged table call) r
    value_tagged tags r e c = rw (loaded tags e) c

    pub answer_refused : (fault : Fault) (r : Result A Refusal) → got ≡ Err fault → r ≡ Err (unplaced fault) → r ≡ call_answer (tagged table call)
    unfolding call_answer
    answer_refused fault r e q = rw (q, unloaded fault e)

    pub answer_tagged : (tags : Tags) (r : Result A Refusal) → got ≡ Ok tags → r ≡ call_answer (call (tag_of tags)) → r ≡ call_answer (tagged table call)
    answer_tagged tags r e c = rw (loaded tags e) c
