-- Functions of the two filters: with the next greater start one ends no earlier, and where starts differ at the same line. Assumes nothing.
use Prim.Native.Nat.{ℕ, ◌-◌, ◌≤◌, ◌<◌, zero-le, compare, Ordering}
use native.Mathlib.Omega.{arith}
use mathlib.Core.Path.{◌≡◌, refl, sym, ap}
use mathlib.Core.Logic.{◌≢◌}
use mathlib.Core.Bool.{Bool, true, false, true≢false, ◌&&◌, ◌||◌}
use mathlib.Core.List.Memᴰ.{head as here}
use mathlib.Core.List.Memᴰ.{tail as there}
use mathlib.Core.List.{List, [], ◌∷◌, Memᴰ as Member}
use mathlib.Core.Option.{Option, none, some}
use lib.Dec.{leb, ltb}
use borrow.Author.Tests.{leb-true, le-leb, ltb-true, ltb-false, lt-ltb, le-ltb}
use Rattle.ordmap.specs.Compare.{lex}
use Rattle.ordmap.proofs.Orderings.{Says, says}
use Rattle.model.specs.declared.Bound.TheVariants.{NextStart, GreaterStart}
use Rattle.model.specs.declared.Range.{Range}
use Rattle.std.specs.Prelude.{if◌then◌else◌}
use Rattle.model.specs.Lists.{filter, any, insert_sorted, sort}
use Rattle.model.specs.Bytes.{compare_bytes}
use Rattle.model.specs.Limits.{u32_max}
use Rattle.model.specs.Report.{Extent, Function, updated, extent_of, end_of, Item, section_item, function_item, branch_item, line_item}
use Rattle.model.specs.Printing.{print_key, compare_printed}
use Rattle.model.specs.Ranges.{holds}
use Rattle.model.specs.Filter.{start_line, bounding, end_before, end_or, end_line, held_functions}
use Rattle.model.specs.Filters.{StartsDiffer}
use Rattle.model.specs.Valid.{Given, ExtentFits, ItemFits}
use Rattle.model.proofs.ListLaws.{and_left, and_right, All, all_select, all_insert, all_map}

-- ---- a range up to a later end

any-more : {A : Type 0} (p q : A → Bool) → ((a : A) → p a ≡ true → q a ≡ true) → (l : List A) → any p l ≡ true → any q l ≡ true
unfolding any
any-more p q h [] e = e
any-more p q h (x ∷ xs) e = go (p x) (q x) (h x) e (any-more p q h xs)
  where
    go : (a b : Bool) → (a ≡ true → b ≡ true) → (a || any p xs) ≡ true → (any p xs ≡ true → any q xs ≡ true) → (b || any q xs) ≡ true
    go true b f e ih = rw (f refl)
    go false true f e ih = refl
    go false false f e ih = ih e

holds_more : (ranges : List Range) (s e e' : ℕ) → e ≤ e' → holds ranges s e ≡ true → holds ranges s e' ≡ true
unfolding holds
holds_more ranges s e e' h =
    any-more (λ r. leb r.start e && leb s r.end) (λ r. leb r.start e' && leb s r.end) (λ r q.
    let low : leb r.start e' ≡ true = le-leb r.start e' (omega (arith, leb-true r.start e (and_left (leb r.start e) (leb s r.end) q))) in
    rw low (and_right (leb r.start e) (leb s r.end) q)) ranges

-- ---- ends

-- the first function behind is passed over, or is the bound
module _ (s : ℕ) (g : Item) (rest : List Item) where
  pub bound_later : start_line g ≤ s → bounding GreaterStart s (g ∷ rest) ≡ bounding GreaterStart s rest
  unfolding bounding filter
  bound_later h = go (ltb s (start_line g)) (le-ltb s (start_line g) h)
    where
      go : (t : Bool) → t ≡ false → (if t then g ∷ bounding GreaterStart s rest else bounding GreaterStart s rest) ≡ bounding GreaterStart s rest
      go true e = absurd (true≢false e)
      go false e = refl

  pub bound_here : s < start_line g → end_before (bounding GreaterStart s (g ∷ rest)) ≡ start_line g - 1
  unfolding end_before bounding filter
  bound_here h = go (ltb s (start_line g)) (lt-ltb s (start_line g) h)
    where
      go : (t : Bool) → t ≡ true → end_before (if t then g ∷ bounding GreaterStart s rest else bounding GreaterStart s rest) ≡ start_line g - 1
      go true e = refl
      go false e = absurd (true≢false (sym e))

  -- a bound on the end that either gives
  bound_either : (n : ℕ) → (s < start_line g → n ≤ start_line g - 1) → (start_line g ≤ s → n ≤ end_before (bounding GreaterStart s rest))
      → n ≤ end_before (bounding GreaterStart s (g ∷ rest))
  bound_either n first past = go (ltb s (start_line g)) refl
    where
      go : (t : Bool) → ltb s (start_line g) ≡ t → n ≤ end_before (bounding GreaterStart s (g ∷ rest))
      go true e = let h = ltb-true s (start_line g) e in rw (bound_here h) (first h)
      go false e = let h = ltb-false s (start_line g) e in rw (bound_later h) (past h)

-- a function that starts at s ends at s or later
reckoned_least : (s : ℕ) → s ≤ u32_max → (l : List Item) → s ≤ end_before (bounding GreaterStart s l)
unfolding end_before bounding filter
reckoned_least s h [] = h
reckoned_least s h (g ∷ rest) = bound_either s g rest s (λ later. omega arith) (λ passed. reckoned_least s h rest)

reckoned_more : (s : ℕ) → s ≤ u32_max → (l : List Item) → end_before l ≤ end_before (bounding GreaterStart s l)
unfolding end_before bounding filter
reckoned_more s h [] = omega arith
reckoned_more s h (g ∷ rest) =
    bound_either s g rest (start_line g - 1) (λ later. omega arith) (λ passed. omega (arith, reckoned_least s h rest))

end_more : (f : Item) (behind : List Item) → start_line f ≤ u32_max → end_line NextStart f behind ≤ end_line GreaterStart f behind
unfolding end_line bounding
end_more f behind h = go (end_of f)
  where
    go : (end : Option ℕ) → end_or (end_before behind) end ≤ end_or (end_before (bounding GreaterStart (start_line f) behind)) end
    go none = reckoned_more (start_line f) h behind
    go (some end) = omega arith

-- ---- what stays

-- ALL THAT ONE FILTER KEEPS, THE OTHER KEEPS
pub held_more : (ranges : List Range) (l : List Item) → ((f : Item) → Member f l → start_line f ≤ u32_max) → (a : Item)
    → Member a (held_functions NextStart ranges l) → Member a (held_functions GreaterStart ranges l)
unfolding held_functions
held_more ranges [] fits a m = m
held_more ranges (f ∷ fs) fits a m =
    go (holds ranges (start_line f) (end_line NextStart f fs)) (holds ranges (start_line f) (end_line GreaterStart f fs))
    (holds_more ranges (start_line f) (end_line NextStart f fs) (end_line GreaterStart f fs) (end_more f fs (fits f (here refl))))
    m (held_more ranges fs (λ g i. fits g (there i)) a)
  where
    next : List Item
    next = held_functions NextStart ranges fs

    greater : List Item
    greater = held_functions GreaterStart ranges fs

    go : (t u : Bool) → (t ≡ true → u ≡ true) → Member a (if t then f ∷ next else next) → (Member a next → Member a greater)
        → Member a (if u then f ∷ greater else greater)
    go true true h (here e) ih = here e
    go true true h (there i) ih = there (ih i)
    go true false h i ih = absurd (true≢false (sym (h refl)))
    go false true h i ih = there (ih i)
    go false false h i ih = ih i

pub start_fits : (i : Item) → ItemFits i → start_line i ≤ u32_max
unfolding start_line extent_of
start_fits (section_item spelling) h = zero-le
start_fits (function_item f) h = go f.extent h.1
  where
    go : (x : Option Extent) → Given (ExtentFits f.name) x → start_line (function_item (updated f x f.count)) ≤ u32_max
    go none h = zero-le
    go (some x) h = h.start
start_fits (branch_item line block branch taken) h = zero-le
start_fits (line_item line count checksum) h = zero-le

-- ---- starts that differ

-- the functions behind one start no earlier
abbrev pub Ascend : List Item → Type 0
Ascend [] = Unit {0}
Ascend (x ∷ xs) = All (λ y. start_line x ≤ start_line y) xs × Ascend xs

-- what an order by start says of two starts
abbrev Ranks : Ordering → ℕ → ℕ → Type 0
Ranks Ordering.lt m n = m ≤ n
Ranks Ordering.eq m n = m ≤ n
Ranks Ordering.gt m n = n ≤ m

then_ranks : (o next : Ordering) (m n : ℕ) → Says o m n → Ranks (lex o next) m n
then_ranks Ordering.lt next m n h = omega arith
then_ranks Ordering.eq Ordering.lt m n h = omega arith
then_ranks Ordering.eq Ordering.eq m n h = omega arith
then_ranks Ordering.eq Ordering.gt m n h = omega arith
then_ranks Ordering.gt next m n h = omega arith

-- what is no function has the empty key, which comes first
first_ranks : (k : List ℕ) (n : ℕ) → Ranks (compare_bytes [] k) 0 n
unfolding compare_bytes
first_ranks [] n = zero-le
first_ranks (b ∷ k) n = zero-le

last_ranks : (f : Function) → Ranks (compare_bytes (print_key (function_item f)) []) (start_line (function_item f)) 0
unfolding compare_bytes print_key start_line extent_of
last_ranks f = go f.extent
  where
    go : (x : Option Extent)
        → let p = function_item (updated f x f.count) in Ranks (compare_bytes (print_key p) []) (start_line p) 0
    go none = zero-le
    go (some x) = zero-le

function_ranks : (f g : Function) → Ranks (compare_printed (function_item f) (function_item g)) (start_line (function_item f)) (start_line (function_item g))
unfolding compare_printed compare_bytes print_key start_line extent_of
function_ranks f g = go f.extent g.extent
  where
    same : (o : Ordering) → Ranks o 0 0
    same Ordering.lt = zero-le
    same Ordering.eq = zero-le
    same Ordering.gt = zero-le

    go : (x y : Option Extent) → let p = function_item (updated f x f.count) in
        let q = function_item (updated g y g.count) in Ranks (compare_printed p q) (start_line p) (start_line q)
    go none none = same (compare_bytes f.name g.name)
    go none (some y) = zero-le
    go (some x) none = zero-le
    go (some x) (some y) = then_ranks (compare x.start y.start) (compare_bytes f.name g.name) x.start y.start (says x.start y.start)

printed_ranks : (x y : Item) → Ranks (compare_printed x y) (start_line x) (start_line y)
unfolding compare_printed print_key start_line extent_of
printed_ranks (function_item f) (function_item g) = function_ranks f g
printed_ranks (function_item f) (section_item spelling) = last_ranks f
printed_ranks (function_item f) (branch_item line block branch taken) = last_ranks f
printed_ranks (function_item f) (line_item line count checksum) = last_ranks f
printed_ranks (section_item spelling) y = first_ranks (print_key y) (start_line y)
printed_ranks (branch_item line block branch taken) y = first_ranks (print_key y) (start_line y)
printed_ranks (line_item line count checksum) y = first_ranks (print_key y) (start_line y)

ascend-insert : (x : Item) (l : List Item) → Ascend l → Ascend (insert_sorted compare_printed x l)
unfolding insert_sorted
ascend-insert x [] a = (tt, tt)
ascend-insert x (y ∷ ys) a = go (compare_printed x y) refl (printed_ranks x y) (ascend-insert x ys a.1)
  where
    before : start_line x ≤ start_line y → Ascend (x ∷ y ∷ ys)
    before h = ((h, all_map (λ z. start_line y ≤ start_line z) (λ z. start_line x ≤ start_line z) (λ z i. omega arith) ys a.0), a)

    go : (o : Ordering) → compare_printed x y ≡ o → Ranks o (start_line x) (start_line y) → Ascend (insert_sorted compare_printed x ys)
        → Ascend (insert_sorted compare_printed x (y ∷ ys))
    go Ordering.lt e h ih = rw (e, insert_sorted) (before h)
    go Ordering.eq e h ih = rw (e, insert_sorted) (before h)
    go Ordering.gt e h ih = rw (e, insert_sorted) (all_insert (λ z. start_line y ≤ start_line z) compare_printed x ys h a.0, ih)

pub ascend-sort : (l : List Item) → Ascend (sort compare_printed l)
unfolding sort
ascend-sort [] = tt
ascend-sort (x ∷ xs) = ascend-insert x (sort compare_printed xs) (ascend-sort xs)

pub ascend_select : (test : Item → Bool) (l : List Item) → Ascend l → Ascend (filter test l)
unfolding filter
ascend_select test [] a = tt
ascend_select test (x ∷ xs) a = go (test x) (ascend_select test xs a.1)
  where
    go : (t : Bool) → Ascend (filter test xs) → Ascend (if t then x ∷ filter test xs else filter test xs)
    go true ih = (all_select (λ y. start_line x ≤ start_line y) test xs a.0, ih)
    go false ih = ih

reckoned_same : (s : ℕ) (l : List Item) → All (λ g. s ≤ start_line g) l → ((g : Item) → Member g l → s ≢ start_line g)
    → end_before (bounding GreaterStart s l) ≡ end_before l
unfolding bounding end_before filter
reckoned_same s [] a d = refl
reckoned_same s (g ∷ rest) a d = bound_here s g rest (omega (arith, a.0, d g (here refl)))

end_same : (f : Item) (behind : List Item) → All (λ g. start_line f ≤ start_line g) behind
    → ((g : Item) → Member g behind → start_line f ≢ start_line g) → end_line GreaterStart f behind ≡ end_line NextStart f behind
unfolding end_line bounding
end_same f behind a d = ap (λ (reckoned : ℕ). end_or reckoned (end_of f)) (reckoned_same (start_line f) behind a d)

-- WHERE STARTS DIFFER, BOTH KEEP THE SAME
pub held_same : (ranges : List Range) (l : List Item) → Ascend l → StartsDiffer l → held_functions GreaterStart ranges l ≡ held_functions NextStart ranges l
unfolding held_functions
held_same ranges [] a d = refl
held_same ranges (f ∷ fs) a d = rw (end_same f fs a.0 d.0, held_same ranges fs a.1 d.1)
