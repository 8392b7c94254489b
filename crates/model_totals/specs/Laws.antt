-- What holds of the page of totals, and of the call that writes it. Assumes nothing.
use Rattle.std.specs.Prelude.{ℕ, ◌+◌, ◌*◌, ◌≤◌, ◌<◌, ◌≡◌, ◌↔◌, length}
use mathlib.Core.List.{List, [], ◌∷◌, ◌++◌, map, Memᴰ as Member}
use Rattle.std.proofs.Math.Option.{none, some}
use Rattle.model.specs.declared.Kind.{Kind}
use Rattle.model.specs.declared.Mode.TheVariants.{Checked}
use Rattle.model.specs.declared.Refusal.{Refusal}
use Rattle.model.specs.Bytes.{Bytes}
use Rattle.model.specs.Answer.{accepted, refused, refuse_length}
use Rattle.model.specs.Tags.{Lawful}
use Rattle.model.specs.Report.{Item, Report}
use Rattle.model.specs.Reading.{lines as cutLines, read_text}
use Rattle.model.specs.Printing.{hits, functions_of, sections}
use Rattle.model.specs.Output.{written}
use Rattle.model.specs.Gather.{entry_limit, gather_bundle, gather}
use Rattle.model.specs.Joined.{total}
use Rattle.model.specs.Valid.{Valid}
use Rattle.model_totals.specs.declared.Ratio.{Ratio}
use Rattle.model_totals.specs.declared.Totals.{Totals}
use Rattle.model_totals.specs.Totals.{totals_of, share, columns, section_line, section_totals, last_totals, page, totals}

abbrev pub items_of : Report → List Item
items_of report = map (λ e. e.item) report

-- each column of the one is the sum of that column of the others
pub record Summed (parts : List Totals) (whole : Totals) : Type 0 where
  pub functions_hit_lem : whole.functions.hit ≡ total (map (λ t. t.functions.hit) parts)
  pub functions_found_lem : whole.functions.found ≡ total (map (λ t. t.functions.found) parts)
  pub branches_hit_lem : whole.branches.hit ≡ total (map (λ t. t.branches.hit) parts)
  pub branches_found_lem : whole.branches.found ≡ total (map (λ t. t.branches.found) parts)
  pub lines_hit_lem : whole.lines.hit ≡ total (map (λ t. t.lines.hit) parts)
  pub lines_found_lem : whole.lines.found ≡ total (map (λ t. t.lines.found) parts)

-- hit is at most found, and the share at most 1000
pub record HitWithinFound (t : Totals) : Type 0 where
  pub functions_within : t.functions.hit ≤ t.functions.found
  pub branches_within : t.branches.hit ≤ t.branches.found
  pub lines_within : t.lines.hit ≤ t.lines.found
  pub share_most : (tenths : ℕ) → share t.lines ≡ some tenths → tenths ≤ 1000

-- no more than n were found of any kind
pub record FoundAtMost (n : ℕ) (t : Totals) : Type 0 where
  pub functions_most : t.functions.found ≤ n
  pub branches_most : t.branches.found ≤ n
  pub lines_most : t.lines.found ≤ n

pub record TotalsLaws : Type 0 where
  -- the numbers of the last line are the sums of the lines above, and those of the report's own entries
  pub summed : (report : Report) → Summed (section_totals report) (last_totals report)
  pub own_entries : (report : Report) → Valid report → last_totals report ≡ totals_of (items_of report)
  pub found_most : (report : Report) → Valid report → FoundAtMost (length report) (last_totals report)
  pub within_section : (report : Report) (t : Totals) → Member t (section_totals report) → HitWithinFound t
  pub within_last : (report : Report) → HitWithinFound (last_totals report)
  -- a share is missing exactly where nothing was found, and is rounded down
  pub share_none : (r : Ratio) → (share r ≡ none) ↔ (r.found ≡ 0)
  pub share_down : (r : Ratio) (tenths : ℕ) → share r ≡ some tenths
      → (tenths * r.found ≤ 1000 * r.hit) × (1000 * r.hit < tenths * r.found + r.found)
  -- the bytes, cut at each byte 10, are a line for each section and the last line
  pub lines_printed : (report : Report) → Valid report → cutLines (page report) ≡ map section_line (sections report) ++ columns (last_totals report) ∷ []
  -- the functions' numbers are those that FNF and FNH print; branches and lines are so by definition
  pub as_printed : (items : List Item)
      → ((totals_of items).functions.found ≡ length (functions_of items)) × ((totals_of items).functions.hit ≡ hits (functions_of items))
  -- the call: what the gather is refused with, then 14 of the page alone
  pub refuses : (tag : Kind → Bytes) (bundle : Bytes) (words room : ℕ) (r : Refusal) → gather_bundle tag Checked bundle words ≡ refused r
      → totals tag bundle words room ≡ refused r
  pub writes : (tag : Kind → Bytes) (bundle : Bytes) (words room : ℕ) (report : Report) → gather_bundle tag Checked bundle words ≡ accepted report
      → length (page report) ≤ room → totals tag bundle words room ≡ accepted (page report)
  pub page_too_long : (tag : Kind → Bytes) (bundle : Bytes) (words room : ℕ) (report : Report) → gather_bundle tag Checked bundle words ≡ accepted report
      → room < length (page report) → totals tag bundle words room ≡ refuse_length (length (page report))
  -- what the checked gather wrote is read as a report, and the page is that report's
  pub page_written : (tag : Kind → Bytes) → Lawful tag → (bundle out : Bytes) (words room : ℕ) → gather tag Checked bundle words room ≡ accepted out
      → (report : Report) × (read_text tag (entry_limit words) out ≡ accepted report)
      × ((room' : ℕ) → totals tag bundle words room' ≡ written room' (page report))
