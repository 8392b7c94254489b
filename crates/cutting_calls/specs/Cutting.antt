-- Cutting before or after adding, for what the calls return and leave in the lent output: `gather_checked`, `read_text`, `filter_text` and
-- `filter_text_distinct_starts`, and their forms that are lent a table of tags. The clauses are those of crate cutting's Cutting, and so are
-- `lines_and_branches` and `Pairwise`; `Wrote` is demand 3's (crate lcov). Assumes nothing.
use Rattle.model.specs.declared.Refusal.{Refusal}
use Rattle.std.specs.Prelude.{ℕ, ◌≤◌, ◌≡◌, ◌↔◌, true, List, length, take, Result}
use Rattle.model.specs.declared.Bound.{Bound}
use Rattle.model.specs.declared.Kind.{Kind}
use Rattle.model.specs.declared.Range.{Range}
use Rattle.model.specs.Bytes.{Bytes}
use Rattle.model.specs.Answer.{accepted}
use Rattle.model.specs.Tags.{default_tag}
use Rattle.model.specs.TagTable.{load_tags, tagged}
use Rattle.model.specs.Report.{Report}
use Rattle.model.specs.Reading.{read_text}
use Rattle.model.specs.Printing.{print_report}
use Rattle.model.specs.Ranges.{well_formed_ranges}
use Rattle.model.specs.Filter.{filter_text}
use Rattle.model.specs.Calls.{WriteCall}
use Rattle.model.specs.Bundle.{well_formed}
use Rattle.model.specs.Gather.{entry_limit}
use Rattle.model.specs.Groups.{texts_of}
use Rattle.lcov.specs.Demand.{GatherCall, ReadCall, Wrote}
use Rattle.cutting.specs.Cutting.{lines_and_branches, Pairwise, cut_report}

-- ---- calls

-- a call of the filter with so many words of scratch: the very promise of `filter_text` with `NextStart`, and of
-- `filter_text_distinct_starts` with `GreaterStart`. The slice is the lent pairs as ranges (`ranges_in`).
abbrev pub FilterCall : (tag : Kind → Bytes) → Bound → Bytes → List Range → ℕ → ℕ → Bytes → Bytes → Result ℕ Refusal → Type 0
FilterCall tag bound text slice used words out out' r = WriteCall (filter_text tag bound text slice used words (length out)) out out' r

-- a call that is lent a table of tags
abbrev pub FilterTagged : Bytes → Bound → Bytes → List Range → ℕ → ℕ → Bytes → Bytes → Result ℕ Refusal → Type 0
FilterTagged table bound text slice used words out out' r = WriteCall (tagged table (λ tag. filter_text tag bound text slice used words (length out))) out out' r

-- what a text is read as, and what `read_text` writes of it into any output that holds it
pub record ReadsAs (tag : Kind → Bytes) (limit : ℕ) (text : Bytes) (report : Report) : Type 0 where
  pub report_read : read_text tag limit text ≡ accepted report
  pub writes : (words : ℕ) (out out' : Bytes) (r : Result ℕ Refusal) → entry_limit words ≡ limit → length (print_report tag report) ≤ length out
      → ReadCall tag text words out out' r → Wrote (print_report tag report) out out' r

module _ (tag : Kind → Bytes) (bound : Bound) where
  -- a call of the filter wrote `part` of a text
  pub record CutCall (ranges : List Range) (limit : ℕ) (text part : Bytes) : Type 0 where
    pub slice : List Range
    pub used : ℕ
    pub words : ℕ
    pub out : Bytes
    pub out' : Bytes
    pub r : Result ℕ Refusal
    pub by_ranges : take used slice ≡ ranges
    pub one_limit : entry_limit words ≡ limit
    pub call : FilterCall tag bound text slice used words out out' r
    pub wrote : Wrote part out out' r

  -- what calls of the filter write of a text into any output that holds it, and what that is read as
  pub record FilteredCalls (ranges : List Range) (limit : ℕ) (text : Bytes) (report : Report) : Type 0 where
    pub bytes : Bytes
    pub writes : (slice : List Range) (used words : ℕ) (out out' : Bytes) (r : Result ℕ Refusal) → well_formed_ranges slice used ≡ true → take used slice ≡ ranges
        → entry_limit words ≡ limit → length bytes ≤ length out → FilterCall tag bound text slice used words out out' r → Wrote bytes out out' r
    pub reads : ReadsAs tag limit bytes report

  -- ---- the theorem

  pub record BothWaysCalls (ranges : List Range) (limit : ℕ) (whole parts : Bytes) : Type 0 where
    -- cut first: what the gather writes of `parts` into any output that holds it, and what that is read as
    pub cut_first_lem : Bytes
    pub gathers : (words : ℕ) (out out' : Bytes) (r : Result ℕ Refusal) → entry_limit words ≡ limit → length cut_first_lem ≤ length out
        → GatherCall tag parts words out out' r → Wrote cut_first_lem out out' r
    pub cut_first_report : Report
    pub cut_first_reads : ReadsAs tag limit cut_first_lem cut_first_report
    -- added first: what the filter writes of `whole`, and what that is read as
    pub added_first_report : Report
    pub added_first_lem : FilteredCalls ranges limit whole added_first_report
    pub same_counts : lines_and_branches cut_first_report ≡ lines_and_branches added_first_report

  pub record CuttingCalls : Type 0 where
    -- the gather wrote `whole` of a bundle, and calls of the filter wrote the texts of `parts` of the bundle's texts
    pub same : (bundle whole parts : Bytes) (ranges : List Range) (words : ℕ) (out out' : Bytes) (r : Result ℕ Refusal)
        → GatherCall tag bundle words out out' r → Wrote whole out out' r
        → Pairwise (CutCall ranges (entry_limit words)) (texts_of bundle) (texts_of parts) → well_formed parts ≡ true
        → BothWaysCalls ranges (entry_limit words) whole parts
    -- a text that is readable can be filtered
    pub filters : (ranges : List Range) (words : ℕ) (text : Bytes) (report : Report) → read_text tag (entry_limit words) text ≡ accepted report
        → FilteredCalls ranges (entry_limit words) text (cut_report bound ranges report)

-- CUTTING for the calls without a table and for those that are lent one
pub record CuttingCallsTables : Type 0 where
  pub default : (bound : Bound) → CuttingCalls default_tag bound
  pub lent : (table : Bytes) (tag : Kind → Bytes) → load_tags table ≡ accepted tag → (bound : Bound) → CuttingCalls tag bound
  -- a call of the filter that is lent such a table is a call under its tags; `Demand3Tables` says the same of the gather and of `read_text`
  pub filters : (table : Bytes) (tag : Kind → Bytes) → load_tags table ≡ accepted tag
      → (bound : Bound) (text : Bytes) (slice : List Range) (used words : ℕ) (out out' : Bytes) (r : Result ℕ Refusal)
      → FilterTagged table bound text slice used words out out' r ↔ FilterCall tag bound text slice used words out out' r
