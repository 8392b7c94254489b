-- What the calls answer, and what the slice holds afterwards. Assumes nothing.
use Rattle.std.specs.Prelude.{Ok, Err}
use Prim.Native.Nat.{ℕ, ◌+◌, ◌-◌, ◌≤◌, ◌<◌}
use mathlib.Core.Path.{◌≡◌, sym, ap, ◌∙◌}
use mathlib.Core.Bool.{Bool, true, false, not}
use mathlib.Core.List.{List, ◌∷◌, ◌++◌}
use borrow.Author.Tests.{not-true, not-false, le-leb, lt-leb}
use lib.ListN.{length, take, replicate}
use Rattle.model.specs.declared.Range.{Range}
use Rattle.model.specs.declared.Refusal.{Refusal}
use Rattle.model.specs.declared.Fault.TheVariants.{RangesFull, MalformedRanges}
use Rattle.model.specs.Answer.{unplaced, accepted, refuse}
use Rattle.model.specs.Ranges.{well_formed_ranges, join_into, insert_range, insert_call, slice_after, holds, query_call}
use Rattle.model.specs.Calls.{length_answer, call_answer}
use Rattle.table.specs.Places.{PartitionPoint}
use Rattle.line_num_pairs.specs.Pairs.{pair, range_at, span, ranges_in, EndsBefore, Cleared, replaced_by, filled_up}
use Rattle.line_num_pairs.proofs.SpanLaws.{length-span, ranges-length}
use Rattle.line_num_pairs.proofs.WellLaws.{well_inside}
use Rattle.line_num_pairs.proofs.JoinLaws.{inserted, dropped, length-replaced, cleared_list}

module _ (slice : List Range) (used : ℕ) (well : Bool) (is : well ≡ well_formed_ranges slice used) where
  pub told_well : not well ≡ false → well_formed_ranges slice used ≡ true
  told_well h = sym is ∙ not-false well h

  told_ill : not well ≡ true → well_formed_ranges slice used ≡ false
  told_ill h = sym is ∙ not-true well h

  module _ (s e : ℕ) where
    pub query_malformed : not well ≡ true → (r : Refusal) → r ≡ unplaced MalformedRanges → Err r ≡ call_answer (query_call slice used s e)
    unfolding query_call call_answer
    query_malformed h r m = rw (told_ill h, m)

    pub query_held : not well ≡ false → (b : Bool) → b ≡ holds (take used slice) s e → Ok b ≡ call_answer (query_call slice used s e)
    unfolding query_call call_answer
    query_held h b m = rw (told_well h, m)

  module _ (start end : ℕ) (h : not well ≡ true) where
    pub malformed_answer : (r : Refusal) → r ≡ unplaced MalformedRanges → Err r ≡ length_answer (insert_call slice used (pair start end))
    unfolding insert_call length_answer
    malformed_answer r m = rw (told_ill h, m)

    pub malformed_slice : slice ≡ slice_after (insert_call slice used (pair start end)) slice
    unfolding insert_call slice_after
    malformed_slice = rw (told_ill h)

-- the list after an insert, where it fits and where it does not
module _ (ps : List (List ℕ)) (used : ℕ) (r : Range) (well : well_formed_ranges (ranges_in ps) used ≡ true) (ranges : List Range) (n : ℕ)
    (is : insert_range r (take used (ranges_in ps)) ≡ ranges) (long : length ranges ≡ n) where
  call_fits : n ≤ length ps → insert_call (ranges_in ps) used r ≡ accepted ranges
  unfolding insert_call
  call_fits h = rw (well, is, long, ranges-length ps, le-leb n (length ps) h)

  call_full : length ps < n → insert_call (ranges_in ps) used r ≡ refuse RangesFull
  unfolding insert_call
  call_full h = rw (well, is, long, ranges-length ps, lt-leb n (length ps) h)

  fits_answer : n ≤ length ps → Ok n ≡ length_answer (insert_call (ranges_in ps) used r)
  unfolding length_answer
  fits_answer h = rw (call_fits h, long)

  fits-slice : n ≤ length ps → filled_up ps ranges ≡ slice_after (insert_call (ranges_in ps) used r) (ranges_in ps)
  unfolding slice_after
  fits-slice h = rw (call_fits h, ranges-length ps)

module _ (ps : List (List ℕ)) (used start end : ℕ) (well : well_formed_ranges (ranges_in ps) used ≡ true) (turned : end < start) where
  list : insert_range (pair start end) (take used (ranges_in ps)) ≡ span (range_at ps) 0 used
  list = dropped ps used start end (well_inside ps used well) turned

  pub dropped_answer : Ok used ≡ length_answer (insert_call (ranges_in ps) used (pair start end))
  dropped_answer = fits_answer ps used (pair start end) well (span (range_at ps) 0 used) used list (length-span (range_at ps) 0 used) (well_inside ps used well)

  pub dropped-slice : (ps' : List (List ℕ)) → length ps' ≡ length ps → Cleared (range_at ps) (range_at ps') used (length ps)
      → ranges_in ps' ≡ slice_after (insert_call (ranges_in ps) used (pair start end)) (ranges_in ps)
  dropped-slice ps' l κ =
      cleared_list ps ps' used l (well_inside ps used well) κ
      ∙ ap (λ (n : ℕ). span (range_at ps) 0 used ++ replicate (length ps - n) (pair 0 0)) (sym (length-span (range_at ps) 0 used))
      ∙ fits-slice ps used (pair start end) well (span (range_at ps) 0 used) used list (length-span (range_at ps) 0 used) (well_inside ps used well)

-- the pairs from first up to past are those that the range is joined with
pub record Meets (ps : List (List ℕ)) (used start end first : ℕ) (r : Range) (past : ℕ) : Type 0 where
  pub well : well_formed_ranges (ranges_in ps) used ≡ true
  pub right : start ≤ end
  pub cut : PartitionPoint (EndsBefore ps start) used first
  pub joined : join_into (pair start end) (span (range_at ps) first (used - first)) ≡ r ∷ span (range_at ps) past (used - past)

module _ (ps : List (List ℕ)) (used start end first : ℕ) (r : Range) (past : ℕ) (μ : Meets ps used start end first r past) where
  list_of : insert_range (pair start end) (take used (ranges_in ps)) ≡ replaced_by (range_at ps) used first r past
  list_of = inserted ps used start end first r past (well_inside ps used μ.well) μ.right μ.cut μ.joined

  abbrev ranges : List Range
  ranges = replaced_by (range_at ps) used first r past

  long : length ranges ≡ first + 1 + (used - past)
  long = length-replaced (range_at ps) used first r past

  module _ (full : length ps < first + 1 + (used - past)) where
    too_many : insert_call (ranges_in ps) used (pair start end) ≡ refuse RangesFull
    too_many = call_full ps used (pair start end) μ.well ranges (first + 1 + (used - past)) list_of long full

    pub full_answer : (u : Refusal) → u ≡ unplaced RangesFull → Err u ≡ length_answer (insert_call (ranges_in ps) used (pair start end))
    unfolding length_answer
    full_answer u m = rw (too_many, m)

    pub full_slice : ranges_in ps ≡ slice_after (insert_call (ranges_in ps) used (pair start end)) (ranges_in ps)
    unfolding slice_after
    full_slice = rw too_many

  module _ (fits : first + 1 + (used - past) ≤ length ps) where
    pub put_answer : Ok (first + 1 + (used - past)) ≡ length_answer (insert_call (ranges_in ps) used (pair start end))
    put_answer = fits_answer ps used (pair start end) μ.well ranges (first + 1 + (used - past)) list_of long fits

    pub put_slice : (ps' : List (List ℕ)) → ranges_in ps' ≡ filled_up ps ranges → ranges_in ps' ≡ slice_after (insert_call (ranges_in ps) used (pair start end)) (ranges_in ps)
    put_slice ps' e = e ∙ fits-slice ps used (pair start end) μ.well ranges (first + 1 + (used - past)) list_of long fits
