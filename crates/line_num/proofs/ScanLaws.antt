-- Laws of the pass over the ranges used: what each function answers, and that the pass answers a query. Assumes
-- nothing.
use Rattle.std.specs.Prelude.{Ok, Err}
use Prim.Native.Nat.{ℕ, suc, ◌+◌, ◌≤◌, ◌<◌, min, max}
use native.Mathlib.Omega.{arith}
use native.Mathlib.Numerals.{add-one}
use mathlib.Core.Path.{◌≡◌, refl, sym, ap, ◌∙◌}
use mathlib.Core.Bool.{Bool, true, false, not, ◌&&◌, ◌||◌}
use mathlib.Core.List.{List, [], ◌∷◌}
use lib.Dec.{leb, ltb}
use lib.ListN.{length, get_or, take, drop, length-take, drop_of_length-le}
use lib.Seq.{drop-cons, get_or-take}
use borrow.Author.Tests.{not-true, not-false, le-leb, lt-leb, lt-ltb, le-ltb, ltb-true, ltb-false}
use Rattle.model.specs.declared.Range.{Range}
use Rattle.model.specs.declared.Refusal.{Refusal}
use Rattle.model.specs.declared.Fault.TheVariants.{MalformedRanges}
use Rattle.model.specs.Lists.{any}
use Rattle.model.specs.Answer.{unplaced}
use Rattle.model.specs.Ranges.{ascending, well_formed_ranges, holds, query_call}
use Rattle.model.specs.Calls.{call_answer}
use Rattle.line_num.specs.declared.Scan.{Scan}
use Rattle.line_num.specs.Scans.{scan_start, passes_by, stays_by, scanned_by, scan_from, scan_of, scan_answer}

-- ---- one range

module _ (well : Bool) (least : ℕ) (x : Range) where
  pub order_ill : not well ≡ true → false ≡ (well && leb least x.start && leb x.start x.end)
  order_ill h = rw (not-true well h)

  module _ (h : not well ≡ false) where
    pub order-low : x.start < least → false ≡ (well && leb least x.start && leb x.start x.end)
    order-low l = rw (not-false well h, lt-leb least x.start l)

    pub order_told : least ≤ x.start → leb x.start x.end ≡ (well && leb least x.start && leb x.start x.end)
    order_told l = rw (not-false well h, le-leb least x.start l)

module _ (held : Bool) (x : Range) (start end : ℕ) where
  pub held-before : held ≡ true → true ≡ (held || (leb x.start end && leb start x.end))
  held-before h = rw h

  module _ (h : held ≡ false) where
    pub held-behind : end < x.start → false ≡ (held || (leb x.start end && leb start x.end))
    held-behind l = rw (h, lt-leb x.start end l)

    pub held_told : x.start ≤ end → leb start x.end ≡ (held || (leb x.start end && leb start x.end))
    held_told l = rw (h, le-leb x.start end l)

module _ (f : Scan) (x : Range) where
  pub passes_on : f.past ≡ true → true ≡ passes_by f x
  unfolding passes_by
  passes_on h = rw h

  pub stays_not : f.past ≡ true → false ≡ stays_by f x
  unfolding stays_by
  stays_not h = rw h

  module _ (h : f.past ≡ false) where
    pub passes_not : x.end + 1 < f.low → false ≡ passes_by f x
    unfolding passes_by
    passes_not l = rw (h, lt-ltb (suc x.end) f.low (omega arith))

    pub passes_told : f.low ≤ x.end + 1 → ltb (f.high + 1) x.start ≡ passes_by f x
    unfolding passes_by
    passes_told l = rw (h, le-ltb (suc x.end) f.low (omega arith), add-one f.high)

    pub stays_told : ltb (x.end + 1) f.low ≡ stays_by f x
    unfolding stays_by
    stays_told = rw (h, add-one x.end)

module _ (f : Scan) (next : ℕ) (x : Range) (w h p : Bool) (isw : w ≡ (f.well && leb f.least x.start && leb x.start x.end))
    (ish : h ≡ (f.held || (leb x.start f.end && leb f.start x.end))) (isp : p ≡ passes_by f x) where
  abbrev seen : ℕ → ℕ → ℕ → Scan
  seen low high at = record { start = f.start; end = f.end; well = w; least = x.end + 2; held = h; past = p; low = low; high = high; at = at }

  pub scanned_past : p ≡ true → (at : ℕ) → at ≡ min (f.at + 1) next → seen x.start x.end at ≡ scanned_by f next x
  unfolding scanned_by
  scanned_past t at e = let z : passes_by f x ≡ true = sym isp ∙ t in rw (isw, ish, e, z, t)

  module _ (t : p ≡ false) (q : Bool) (isq : q ≡ stays_by f x) where
    pub scanned_stays : q ≡ true → (at : ℕ) → at ≡ min (f.at + 1) next → seen f.low f.high at ≡ scanned_by f next x
    unfolding scanned_by
    scanned_stays s at e = let z : passes_by f x ≡ false = sym isp ∙ t in let y : stays_by f x ≡ true = sym isq ∙ s in rw (isw, ish, e, z, y, t)

    pub scanned_joined : q ≡ false → (lo hi : ℕ) → lo ≡ min f.low x.start → hi ≡ max f.high x.end → seen lo hi f.at ≡ scanned_by f next x
    unfolding scanned_by
    scanned_joined s lo hi el eh = let z : passes_by f x ≡ false = sym isp ∙ t in let y : stays_by f x ≡ false = sym isq ∙ s in rw (isw, ish, el, eh, z, y, t)

-- ---- one range after the other

pub scan_begun : (slice : List Range) (used s e : ℕ) → scan_from (scan_start s e) 0 (take used slice) ≡ scan_of slice used s e
unfolding scan_of
scan_begun slice used s e = refl

module _ (slice : List Range) (used : ℕ) (f : Scan) (i : ℕ) where
  pub scan_next : (none : Range) → i < min used (length slice)
      → scan_from (scanned_by f (i + 1) (get_or slice i none)) (i + 1) (drop (i + 1) (take used slice)) ≡ scan_from f i (drop i (take used slice))
  unfolding scan_from
  scan_next none h =
      sym (rw (drop-cons (take used slice) i none (let z : i < length (take used slice) = rw (length-take used slice) h in z), get_or-take used slice i none (omega arith), ← (add-one i)))

  pub scan_done : min used (length slice) ≤ i → f ≡ scan_from f i (drop i (take used slice))
  unfolding scan_from
  scan_done h = sym (rw (drop_of_length-le (take used slice) {i = i} (rw (length-take used slice) h)))

-- ---- what a query answers

-- ascending, the first start at least least
ascending_from : ℕ → List Range → Bool
ascending_from least [] = true
ascending_from least (x ∷ xs) = leb least x.start && leb x.start x.end && ascending_from (x.end + 2) xs

and_true : (a : Bool) → a ≡ (a && true)
and_true true = refl
and_true false = refl

and_regroup : (a b c d : Bool) → (a && b && c && d) ≡ (a && (b && c && d))
and_regroup true b c d = refl
and_regroup false b c d = refl

and_none : (a b : Bool) → (a && false && b) ≡ false
and_none true b = refl
and_none false b = refl

and_last : (a : Bool) → false ≡ (a && false)
and_last true = refl
and_last false = refl

or_regroup : (a b c : Bool) → ((a || b) || c) ≡ (a || (b || c))
or_regroup true b c = refl
or_regroup false b c = refl

or_false : (a : Bool) → a ≡ (a || false)
or_false true = refl
or_false false = refl

scan_well : (f : Scan) (i : ℕ) (xs : List Range) → (scan_from f i xs).well ≡ (f.well && ascending_from f.least xs)
unfolding scan_from scanned_by ascending_from
scan_well f i [] = and_true f.well
scan_well f i (x ∷ xs) =
    scan_well (scanned_by f (i + 1) x) (i + 1) xs
    ∙ and_regroup f.well (leb f.least x.start) (leb x.start x.end) (ascending_from (x.end + 2) xs)

scan_held : (f : Scan) (i : ℕ) (xs : List Range) → (scan_from f i xs).held ≡ (f.held || any (λ r. leb r.start f.end && leb f.start r.end) xs)
unfolding scan_from scanned_by any
scan_held f i [] = or_false f.held
scan_held f i (x ∷ xs) =
    scan_held (scanned_by f (i + 1) x) (i + 1) xs
    ∙ or_regroup f.held (leb x.start f.end && leb f.start x.end) (any (λ r. leb r.start f.end && leb f.start r.end) xs)

ascends : (x : Range) (xs : List Range) (least : ℕ) → least ≤ x.start → ascending (x ∷ xs) ≡ ascending_from least (x ∷ xs)
unfolding ascending ascending_from
ascends x [] least h = rw (le-leb least x.start h) (and_true (leb x.start x.end))
ascends x (y ∷ ys) least h = rw (le-leb least x.start h) (go (ltb (suc x.end) y.start) refl (ascends y ys (x.end + 2)))
  where
    go : (t : Bool) → ltb (suc x.end) y.start ≡ t → (x.end + 2 ≤ y.start → ascending (y ∷ ys) ≡ ascending_from (x.end + 2) (y ∷ ys))
        → (leb x.start x.end && t && ascending (y ∷ ys)) ≡ (leb x.start x.end && ascending_from (x.end + 2) (y ∷ ys))
    go true e ih = ap (λ (t : Bool). t && ascending (y ∷ ys)) (sym (and_true (leb x.start x.end))) ∙ ap (λ (t : Bool). leb x.start x.end && t) (ih (omega (arith, ltb-true (suc x.end) y.start e)))
    go false e ih = and_none (leb x.start x.end) (ascending (y ∷ ys)) ∙ rw (lt-leb (x.end + 2) y.start (omega (arith, ltb-false (suc x.end) y.start e))) (and_last (leb x.start x.end))

ascends_all : (xs : List Range) → ascending_from 0 xs ≡ ascending xs
unfolding ascending ascending_from
ascends_all [] = refl
ascends_all (x ∷ xs) = sym (ascends x xs 0 (omega arith))

-- the pass shows whether the slice is well formed
pub scan_formed : (slice : List Range) (used s e : ℕ) → (leb used (length slice) && (scan_of slice used s e).well) ≡ well_formed_ranges slice used
unfolding scan_of well_formed_ranges
scan_formed slice used s e = rw (scan_well (scan_start s e) 0 (take used slice), ascends_all (take used slice))

-- the range to put in stays what it was
pub scan_asked : (f : Scan) (i : ℕ) (xs : List Range) → ((scan_from f i xs).start ≡ f.start) × ((scan_from f i xs).end ≡ f.end)
unfolding scan_from scanned_by
scan_asked f i [] = (refl, refl)
scan_asked f i (x ∷ xs) = scan_asked (scanned_by f (i + 1) x) (i + 1) xs

pub query_told : (slice : List Range) (used s e : ℕ) → scan_answer (scan_of slice used s e) used (length slice) ≡ query_call slice used s e
unfolding scan_answer scan_of query_call well_formed_ranges holds
query_told slice used s e = rw (scan_well (scan_start s e) 0 (take used slice), scan_held (scan_start s e) 0 (take used slice), ascends_all (take used slice))

-- the answer's cases
module _ (f : Scan) (used len : ℕ) where
  pub short_answer : len < used → (r : Refusal) → r ≡ unplaced MalformedRanges → Err r ≡ call_answer (scan_answer f used len)
  unfolding scan_answer call_answer
  short_answer h r m = rw (lt-leb used len h, m)

  module _ (h : used ≤ len) where
    pub ill_answer : not f.well ≡ true → (r : Refusal) → r ≡ unplaced MalformedRanges → Err r ≡ call_answer (scan_answer f used len)
    unfolding scan_answer call_answer
    ill_answer t r m = rw (le-leb used len h, not-true f.well t, m)

    pub held_answer : not f.well ≡ false → Ok f.held ≡ call_answer (scan_answer f used len)
    unfolding scan_answer call_answer
    held_answer t = rw (le-leb used len h, not-false f.well t)
