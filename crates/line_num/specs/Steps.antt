-- An insert step by step: the ranges used are read one after the other and written back with the new range among them;
-- then the positions behind are filled. Assumes nothing.
use Rattle.model.specs.declared.Refusal.{Refusal}
use Rattle.std.specs.Prelude.{ℕ, zero, suc, ◌+◌, ◌-◌, ◌≤◌, min, ◌&&◌, List, leb, ltb, get_or, set, if◌then◌else◌, Result, Ok, Err}
use Rattle.model.specs.declared.Range.{Range}
use Rattle.model.specs.declared.Fault.TheVariants.{RangesFull, MalformedRanges}
use Rattle.model.specs.Answer.{unplaced}
use Rattle.line_num_pairs.specs.Pairs.{pair}
use Rattle.line_num.specs.declared.Scan.{Scan}
use Rattle.line_num.specs.declared.Plan.{Plan}
use Rattle.line_num.specs.declared.Put.{Put}
use Rattle.line_num.specs.Scans.{scan_start, passes_by, stays_by, scanned_by}

-- of all steps, the first reads read a range each, and the others fill the positions from from on: with the pass's
-- range below n, with zeros behind
abbrev pub plan_by : Scan → ℕ → ℕ → ℕ → ℕ → Plan
plan_by f reads from n steps = record { reads = reads; from = from; n = n; steps = steps; start = f.start; end = f.end; low = f.low; high = f.high }

-- what is to be done after the pass: nothing on a refusal
unfoldable pub plan_of : Scan → ℕ → ℕ → Plan
plan_of f used len =
    if leb used len && f.well
    then (if ltb f.end f.start then plan_by f 0 used used (len - used) else if ltb f.at len then plan_by f used f.at (f.at + 1) (used + (len - f.at)) else plan_by f 0 0 0 0)
    else plan_by f 0 0 0 0

-- what an insert answers after the pass
unfoldable pub answer_of : Scan → ℕ → ℕ → Result ℕ Refusal
answer_of f used len =
    if leb used len && f.well
    then (if ltb f.end f.start then Ok used else if ltb f.at len then Ok (f.at + 1) else Err (unplaced RangesFull))
    else Err (unplaced MalformedRanges)

-- the steps are within a slice
abbrev pub PlanFits : Plan → ℕ → Type 0
PlanFits p len = (p.reads ≤ len) × (p.from + (p.steps - p.reads) ≤ len)

-- the position that step t reads
unfoldable pub read_at : Plan → ℕ → ℕ
read_at p t = if ltb t p.reads then t else p.from + (t - p.reads)

-- what step t, which read x at position k, writes where
unfoldable pub put_at : Plan → Scan → ℕ → ℕ → Range → Put
put_at p f t k x =
    if ltb t p.reads
    then (if passes_by f x then record { at = min f.at k; range = pair f.low f.high } else if stays_by f x then record { at = min f.at k; range = x } else record { at = k; range = x })
    else record { at = k; range = if ltb k p.n then pair p.low p.high else pair 0 0 }

-- the slice and the pass after step t
abbrev pub stepped : Plan → ℕ → List Range → Scan → List Range × Scan
stepped p t slice f = (
  set slice (put_at p f t (read_at p t) (get_or slice (read_at p t) (pair 0 0))).at (put_at p f t (read_at p t) (get_or slice (read_at p t) (pair 0 0))).range,
  scanned_by f (t + 1) (get_or slice (read_at p t) (pair 0 0)),
)

-- the slice and the pass after so many steps
unfoldable pub after : Plan → List Range → ℕ → List Range × Scan
after p slice zero = (slice, scan_start p.start p.end)
after p slice (suc t) = stepped p t (after p slice t).0 (after p slice t).1

unfoldable pub rewritten : Plan → List Range → List Range
rewritten p slice = (after p slice p.steps).0
