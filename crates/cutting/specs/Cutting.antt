-- Cutting before or after adding. To cut is to filter by ranges, to add is to gather: each text is filtered and the filtered texts are
-- gathered, or the texts are gathered and the result is filtered. Both give the same lines and branches. Clause by clause:
--   "For every bundle that the checked gather accepts": the premise `gather .. ≡ accepted whole` of `same`.
--   "every well-formed range list": `ranges`, the used pairs of a well-formed slice; each call may be lent another such slice.
--   "with which the filtered texts make a well-formed bundle": `CutText` for each text, and `well_formed parts`. A readable text can be
--     filtered, by `filters`. Filtered texts can be longer than the texts, so `parts` could pass 2^32 − 1 bytes: the premise is needed.
--   "enough output": every output that holds the bytes, in `gathers` of `BothWays` and in `writes` of `Filtered`.
--   "and one E in all the calls": the words of scratch may differ, `entry_limit` of them does not.
--   "filtering each text and gathering is accepted": `gathers`.
--   "and gives the same lines and branches as gathering and filtering": `same_counts`, by `lines_and_branches`.
--   "paths compared by components": an entry has its path by components. A spelling can differ: that of an emptied section is lost before
--     adding and kept after.
--   "once both are read back and so lose emptied sections": `cut_first_reads` of `BothWays` and `reads` of `Filtered`.
--   "Functions are excepted": a function stays or goes by its start and end, and its end depends on the order. A reckoned end depends on
--     which functions the section holds. Of given ends the adding keeps the larger: `FN:1,1,f` `FNDA:1,f` and `FN:1,9,f` `FNDA:2,f`, cut
--     to line 5, give f the count 2 if each text is cut, and the count 3 if the joined report is cut.
-- Assumes nothing.
use Rattle.std.specs.Prelude.{ℕ, ◌≤◌, ◌≡◌, Bool, true, ◌&&◌, ◌||◌, List, [], ◌∷◌, map, length, take}
use Rattle.ordmap.specs.Gathering.{read_all as readEach}
use Rattle.model.specs.declared.Bound.{Bound}
use Rattle.model.specs.declared.Kind.{Kind}
use Rattle.model.specs.declared.Mode.TheVariants.{Checked}
use Rattle.model.specs.declared.Range.{Range}
use Rattle.model.specs.Lists.{filter, concat_map}
use Rattle.model.specs.Bytes.{Bytes}
use Rattle.model.specs.Path.{components}
use Rattle.model.specs.Answer.{accepted}
use Rattle.model.specs.Tags.{default_tag}
use Rattle.model.specs.TagTable.{load_tags}
use Rattle.model.specs.Report.{Item, section_item, Entry, Report, SectionKey, in_section}
use Rattle.model.specs.Reading.{read_text}
use Rattle.model.specs.Printing.{is_branch, is_line, sections}
use Rattle.model.specs.Ranges.{well_formed_ranges}
use Rattle.model.specs.Filter.{is_held, filter_items, filter_text}
use Rattle.model.specs.Bundle.{well_formed}
use Rattle.model.specs.Gather.{entry_limit, gather}
use Rattle.model.specs.Groups.{texts_of}
use Rattle.model.specs.Joined.{joined_report, starts_agree, checksums_agree, sums_fit}

-- ---- what is compared

unfoldable pub is_line_or_branch : Item → Bool
is_line_or_branch item = is_branch item || is_line item

-- the lines and branches of a report, in the order of their keys. Each is an entry: a test name, the components of a path, and a line's
-- number, count and checksum, or a branch's line, block, number and taken count. A section that has neither is not seen here.
unfoldable pub lines_and_branches : Report → List Entry
lines_and_branches report = filter (λ e. is_line_or_branch e.item) report

-- those on a line that the ranges hold
unfoldable pub is_held_line_or_branch : List Range → Item → Bool
is_held_line_or_branch ranges item = is_line_or_branch item && is_held ranges item

unfoldable pub held_lines_and_branches : List Range → Report → List Entry
held_lines_and_branches ranges report = filter (λ e. is_held_line_or_branch ranges e.item) report

-- ---- a report that is cut

-- the entries of a section of which these items are left; a section without items is gone
unfoldable pub left_entries : SectionKey → Bytes → List Item → Report
left_entries key spelling [] = []
left_entries key spelling (item ∷ items) = map (in_section key) (section_item spelling ∷ item ∷ items)

-- each section with what `keep` leaves of its items
unfoldable pub cut_by : (List Item → List Item) → Report → Report
cut_by keep report = concat_map (λ s. left_entries (s.test, components s.spelling) s.spelling (keep s.items)) (sections report)

abbrev pub cut_report : Bound → List Range → Report → Report
cut_report bound ranges report = cut_by (filter_items bound ranges) report

-- reports, and the same reports cut: where the first can be joined, so can the second. The result is not longer, and its lines and
-- branches are those of the first that the ranges hold.
pub record JoinedCut (ranges : List Range) (reports cuts : List Report) : Type 0 where
  pub starts : starts_agree reports ≡ true → starts_agree cuts ≡ true
  pub checksums : checksums_agree reports ≡ true → checksums_agree cuts ≡ true
  pub sums : sums_fit reports ≡ true → sums_fit cuts ≡ true
  pub entries : length (joined_report cuts) ≤ length (joined_report reports)
  pub held : lines_and_branches (joined_report cuts) ≡ held_lines_and_branches ranges (joined_report reports)

-- ---- texts and bundles

-- as many as each other, and each related to the one at its place
abbrev pub Pairwise : (Bytes → Bytes → Type 0) → List Bytes → List Bytes → Type 0
Pairwise R [] [] = Unit {0}
Pairwise R [] (y ∷ ys) = ⊥
Pairwise R (x ∷ xs) [] = ⊥
Pairwise R (x ∷ xs) (y ∷ ys) = R x y × Pairwise R xs ys

-- under a table of tags, by one of the two filters
module _ (tag : Kind → Bytes) (bound : Bound) where
  -- a filter that was accepted wrote `out` of a text
  pub record CutText (ranges : List Range) (limit : ℕ) (text out : Bytes) : Type 0 where
    pub slice : List Range
    pub used : ℕ
    pub words : ℕ
    pub room : ℕ
    pub by_ranges : take used slice ≡ ranges
    pub one_limit : entry_limit words ≡ limit
    pub wrote : filter_text tag bound text slice used words room ≡ accepted out

  -- what the filter writes of a text into any output that holds it, and what that is read as
  pub record Filtered (ranges : List Range) (limit : ℕ) (text : Bytes) (report : Report) : Type 0 where
    pub out : Bytes
    pub writes : (slice : List Range) (used words room : ℕ) → well_formed_ranges slice used ≡ true → take used slice ≡ ranges → entry_limit words ≡ limit
        → length out ≤ room → filter_text tag bound text slice used words room ≡ accepted out
    pub reads : read_text tag limit out ≡ accepted report

  -- `parts` is the bundle of the filtered texts, `whole` is what the gather wrote of the texts
  pub record BothWays (ranges : List Range) (limit : ℕ) (whole parts : Bytes) : Type 0 where
    -- cut first: what the gather writes of `parts` into any output that holds it, and what that is read as
    pub cut_first_lem : Bytes
    pub gathers : (words room : ℕ) → entry_limit words ≡ limit → length cut_first_lem ≤ room → gather tag Checked parts words room ≡ accepted cut_first_lem
    pub cut_first_report : Report
    pub cut_first_reads : read_text tag limit cut_first_lem ≡ accepted cut_first_report
    -- added first: what the filter writes of `whole`, and what that is read as
    pub added_first_report : Report
    pub added_first_lem : Filtered ranges limit whole added_first_report
    pub same_counts : lines_and_branches cut_first_report ≡ lines_and_branches added_first_report

  pub record Cutting : Type 0 where
    -- bundles: cut and gathered, or gathered and cut
    pub same : (bundle whole parts : Bytes) (ranges : List Range) (words room : ℕ) → gather tag Checked bundle words room ≡ accepted whole
        → Pairwise (CutText ranges (entry_limit words)) (texts_of bundle) (texts_of parts) → well_formed parts ≡ true
        → BothWays ranges (entry_limit words) whole parts
    -- a text that is readable can be filtered, and what is written is read as its report, cut
    pub filters : (ranges : List Range) (words : ℕ) (text : Bytes) (report : Report) → read_text tag (entry_limit words) text ≡ accepted report
        → Filtered ranges (entry_limit words) text (cut_report bound ranges report)
    -- a report that was read: its lines and branches when it is cut
    pub counts : (limit : ℕ) (ranges : List Range) (text : Bytes) (report : Report) → read_text tag limit text ≡ accepted report
        → lines_and_branches (cut_report bound ranges report) ≡ held_lines_and_branches ranges report
    -- reports that were read: cut and joined, or joined and cut
    pub joined : (limit : ℕ) (ranges : List Range) (texts : List Bytes) (reports : List Report) → readEach (read_text tag limit) texts ≡ accepted reports
        → JoinedCut ranges reports (map (cut_report bound ranges) reports)

-- for either filter, without a table of tags and with every table that loads
pub record CuttingTables : Type 0 where
  pub default : (bound : Bound) → Cutting default_tag bound
  pub lent : (table : Bytes) (tag : Kind → Bytes) → load_tags table ≡ accepted tag → (bound : Bound) → Cutting tag bound
