-- One pass over the ranges used: whether they are in order, whether one holds a queried line, and what an inserted
-- range becomes. Assumes nothing.
use Rattle.std.specs.Prelude.{ℕ, suc, ◌+◌, min, max, Bool, true, false, ◌&&◌, ◌||◌, List, [], ◌∷◌, leb, ltb, take, if◌then◌else◌}
use Rattle.model.specs.declared.Range.{Range}
use Rattle.model.specs.declared.Fault.TheVariants.{MalformedRanges}
use Rattle.model.specs.Answer.{Answer, accepted, refuse}
use Rattle.line_num.specs.declared.Scan.{Scan}

-- before the first range
abbrev pub scan_start : ℕ → ℕ → Scan
scan_start start end = record { start = start; end = end; well = true; least = 0; held = false; past = false; low = start; high = end; at = 0 }

-- the range to insert, or the one read last, is before x
unfoldable pub passes_by : Scan → Range → Bool
passes_by f x = if f.past then true else if ltb (suc x.end) f.low then false else ltb (suc f.high) x.start

-- x is before the range to insert
unfoldable pub stays_by : Scan → Range → Bool
stays_by f x = if f.past then false else ltb (suc x.end) f.low

-- x is the range at place next - 1
unfoldable pub scanned_by : Scan → ℕ → Range → Scan
scanned_by f next x = record {
  start = f.start;
  end = f.end;
  well = f.well && leb f.least x.start && leb x.start x.end;
  least = x.end + 2;
  held = f.held || (leb x.start f.end && leb f.start x.end);
  past = passes_by f x;
  low = if passes_by f x then x.start else if stays_by f x then f.low else min f.low x.start;
  high = if passes_by f x then x.end else if stays_by f x then f.high else max f.high x.end;
  at = if passes_by f x || stays_by f x then min (f.at + 1) next else f.at;
}

-- the ranges from place i on
unfoldable pub scan_from : Scan → ℕ → List Range → Scan
scan_from f i [] = f
scan_from f i (x ∷ xs) = scan_from (scanned_by f (i + 1) x) (i + 1) xs

unfoldable pub scan_of : List Range → ℕ → ℕ → ℕ → Scan
scan_of slice used start end = scan_from (scan_start start end) 0 (take used slice)

-- what a query answers after the pass
unfoldable pub scan_answer : Scan → ℕ → ℕ → Answer Bool
scan_answer f used len = if leb used len && f.well then accepted f.held else refuse MalformedRanges
