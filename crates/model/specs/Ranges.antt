-- Ranges of lines: `LineNum`. Assumes nothing.
use Rattle.std.specs.Prelude.{ℕ, suc, ◌-◌, min, max, Bool, true, ◌&&◌, List, [], ◌∷◌, ◌++◌, leb, ltb, length, take, replicate, if◌then◌else◌}
use Rattle.model.specs.declared.Fault.TheVariants.{RangesFull, MalformedRanges}
use Rattle.model.specs.declared.Range.{Range}
use Rattle.model.specs.Lists.{any}
use Rattle.model.specs.Answer.{Answer, accepted, refused, refuse}

-- start at most end, ascending, a gap of at least one line between
unfoldable pub ascending : List Range → Bool
ascending [] = true
ascending (r ∷ []) = leb r.start r.end
ascending (r ∷ next ∷ rest) = leb r.start r.end && ltb (suc r.end) next.start && ascending (next ∷ rest)

-- a lent slice and a number of pairs used
unfoldable pub well_formed_ranges : List Range → ℕ → Bool
well_formed_ranges slice used = leb used (length slice) && ascending (take used slice)

-- half-open a..b, with b = 0 read as b = 1
unfoldable pub half_open : ℕ → ℕ → Range
half_open a b = record { start = a; end = b - 1 }

-- a range with start at most end, put among ranges: it is joined with those that it overlaps or is next to
unfoldable pub join_into : Range → List Range → List Range
join_into r [] = r ∷ []
join_into r (x ∷ xs) =
    if ltb (suc x.end) r.start then x ∷ join_into r xs
    else if ltb (suc r.end) x.start then r ∷ x ∷ xs
    else join_into (record { start = min r.start x.start; end = max r.end x.end }) xs

-- a range with start above end is dropped
unfoldable pub insert_range : Range → List Range → List Range
insert_range r ranges = if leb r.start r.end then join_into r ranges else ranges

-- the pairs used after an insert, where the slice can hold them
unfoldable pub insert_call : List Range → ℕ → Range → Answer (List Range)
insert_call slice used r =
    if well_formed_ranges slice used
    then (let ranges : List Range = insert_range r (take used slice) in if leb (length ranges) (length slice) then accepted ranges else refuse RangesFull)
    else refuse MalformedRanges

-- what the slice holds after an insert: zeros past the pairs used, and all stays on a refusal
unfoldable pub slice_after : Answer (List Range) → List Range → List Range
slice_after (accepted ranges) slice = ranges ++ replicate (length slice - length ranges) (record { start = 0; end = 0 })
slice_after (refused r) slice = slice

-- some pair has start at most e and end at least s
unfoldable pub holds : List Range → ℕ → ℕ → Bool
holds ranges s e = any (λ r. leb r.start e && leb s r.end) ranges

unfoldable pub query_call : List Range → ℕ → ℕ → ℕ → Answer Bool
query_call slice used s e = if well_formed_ranges slice used then accepted (holds (take used slice) s e) else refuse MalformedRanges
