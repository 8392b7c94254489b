-- Two tables whose entries are compared, as the code meets them. Assumes nothing.
use Rattle.std.specs.Prelude.{ℕ, ◌+◌, ◌≤◌, ◌<◌, ◌≡◌, Bool, ◌&&◌, List, eqb, ltb, take, drop, if◌then◌else◌}
use Rattle.model.specs.declared.Kind.{Kind}
use Rattle.model.specs.Limits.{max_entries}
use Rattle.model.specs.Bytes.{Bytes}
use Rattle.model.specs.Answer.{Answer, in_text, ◌>>=◌}
use Rattle.model.specs.Report.{Item, Report, count_of}
use Rattle.model.specs.Reading.{read_text}
use Rattle.model.specs.Printing.{is_function, is_branch, is_line}
use Rattle.model_bounds.specs.declared.Hits.{Hits}
use Rattle.model_bounds.specs.declared.Bounds.{Bounds}
use Rattle.model_bounds.specs.Bounds.{bounds}
use Rattle.table.specs.declared.Row.{Row}
use Rattle.table_section.specs.Sections.{Sections}
use Rattle.std.specs.Prelude.{Result}
use Rattle.model.specs.declared.Refusal.{Refusal}
use Rattle.report_parser.specs.declared.TextRead.{TextRead as TextSizes}
use Rattle.report_parser.specs.Reader.{TextRead}
use Rattle.scratch_layout.specs.Layout.{index_at, base_at}
use Rattle.hit_bounds.specs.declared.Rows.{Rows}

abbrev pub same_branch : Row → Row → Bool
same_branch x y = eqb x.k1 y.k1 && (eqb x.k2 y.k2 && eqb x.k3 y.k3)

-- ---- hits

-- one more of each would still fit
pub record HitsBelow (m : ℕ) (h : Hits) : Type 0 where
  pub lines_below : h.lines < m
  pub functions_below : h.functions < m
  pub branches_below : h.branches < m

-- 1 for an item of a kind that is hit
abbrev pub hit_of : (Item → Bool) → Item → ℕ
hit_of kind item = if kind item && ltb 0 (count_of item) then 1 else 0

abbrev pub with_hit : Item → Hits → Hits
with_hit item h =
    record { lines = h.lines + hit_of is_line item; functions = h.functions + hit_of is_function item; branches = h.branches + hit_of is_branch item }

-- ---- tables

-- the words hold the report of a text
pub record Kept (text ws : List ℕ) (index : ℕ) (rows : Rows) : Type 0 where
  pub sections : Sections text ws index rows.used rows.kept
  pub few : rows.kept ≤ max_entries

-- a text read behind the front, which stays
pub record ReadRest (tag : Kind → Bytes) (text ws ws' : List ℕ) (limit : ℕ) (r : Result TextSizes Refusal) : Type 0 where
  pub read : TextRead tag text (drop (base_at limit) ws') (index_at limit) limit 0 r
  pub stays : take (base_at limit) ws' ≡ take (base_at limit) ws

-- ---- answers

-- what is left to do once the least text is read
abbrev pub bounds_behind : (Kind → Bytes) → Report → Bytes → ℕ → Answer Bounds
bounds_behind tag low greatest limit = in_text 1 (read_text tag limit greatest) >>= λ high. bounds low high
