-- Items of one key joined one after the other, in closed form: accepted exactly when they are joinable, with the joined item. Assumes nothing.
use Prim.Native.Nat.{ℕ, ◌+◌, ◌≤◌, min, max}
use native.Mathlib.Nat.{add_assoc, add-zero}
use native.Mathlib.Omega.{arith}
use mathlib.Core.Path.{◌≡◌, refl, sym, ap, ◌∙◌}
use mathlib.Core.Bool.{Bool, true, false, cond, ◌&&◌}
use mathlib.Core.List.{List, [], ◌∷◌, map}
use mathlib.Core.Option.{Option, none, some}
use lib.Dec.{leb, eqb}
use borrow.Author.Tests.{le-leb, lt-leb, leb-false, leb-true}
use Rattle.ordmap.specs.Result.{accepted, refused, bind, value}
use Rattle.ordmap.proofs.Results.{bind_assoc}
use Rattle.model.specs.declared.Fault.{Fault}
use Rattle.model.specs.declared.Fault.TheVariants.{UnmatchedFunctionLine, UnmatchedChecksum, CountOverflow}
use Rattle.model.specs.declared.Mode.TheVariants.{Checked}
use Rattle.std.specs.Prelude.{if◌then◌else◌}
use Rattle.model.specs.Bytes.{Bytes, same_bytes}
use Rattle.model.specs.Answer.{Answer, refuse}
use Rattle.model.specs.Limits.{u64_max}
use Rattle.model.specs.Report.{
  extent_at,
  Extent,
  Function,
  updated,
  Item,
  Report,
  section_item,
  function_item,
  branch_item,
  line_item,
  extent_of,
  given_start,
  given_end,
  start_of,
  end_of,
  larger,
  join_extents,
  combine_extents,
  taken_of,
  checksum_of,
  count_of,
  sum,
  sum_taken,
  agree,
  combine_items,
}
use Rattle.model.specs.Joined.{given, all_agree, agreeing, total, add_given, total_given, largest, extent_from, joined_as, at_each_key}

-- ---- items that can be joined

-- items with one key, of the first one's kind: given start lines agree, given checksums agree, and no line's or branch's counts add up
-- past 2^64 − 1
unfoldable pub joinable_as : Item → List Item → Bool
joinable_as (section_item spelling) items = true
joinable_as (function_item f) items = agreeing eqb (map start_of items)
joinable_as (branch_item line block branch taken) items = leb (total (map count_of items)) u64_max
joinable_as (line_item line count checksum) items =
    agreeing same_bytes (map checksum_of items) && leb (total (map count_of items)) u64_max

unfoldable pub joinable : List Item → Bool
joinable [] = true
joinable (first ∷ rest) = joinable_as first (first ∷ rest)

-- the reports can be joined, key by key
abbrev pub joins : List Report → Bool
joins reports = at_each_key joinable reports

-- an item, and later ones of its key
abbrev pub join_items : Item → List Item → Answer Item
join_items i [] = accepted i
join_items i (j ∷ js) = bind (combine_items Checked i j) (λ k. join_items k js)

-- a value, if a test is passed
abbrev pub when : {A : Type 0} → Bool → A → Option A
when test a = cond test (some a) none

-- ---- given or none

module _ {A : Type 0} (same : A → A → Bool) (fault : Fault) where
  -- one more that is given or none: it must agree with what is given before
  agree-more : {B : Type 0} (s t : Option A) (rest : List (Option A)) (next : Option A → Answer B) (made : Bool → Option A → Option B)
      → ((u : Option A) → made false u ≡ none) → ((u : Option A) → value (next u) ≡ made (agreeing same (u ∷ rest)) (given (u ∷ rest)))
      → value (bind (agree same Checked fault s t) next) ≡ made (agreeing same (s ∷ t ∷ rest)) (given (s ∷ t ∷ rest))
  unfolding agree agreeing given all_agree
  agree-more none t rest next made n h = h t
  agree-more (some a) none rest next made n h = h (some a)
  agree-more {B} (some a) (some b) rest next made n h = go (same a b)
    where
      go : (test : Bool) → value (bind (if test then accepted (some a) else refuse fault) next) ≡ made (test && all_agree same a rest) (some a)
      go true = h (some a)
      go false = sym (n (some a))

  agree-one : {B : Type 0} (s : Option A) (made : Bool → Option A → Option B) → made true s ≡ made (agreeing same (s ∷ [])) (given (s ∷ []))
  unfolding agreeing given all_agree
  agree-one none made = refl
  agree-one (some a) made = refl

-- ---- sections

sections_closed : (spelling : Bytes) (js : List Item) → join_items (section_item spelling) js ≡ accepted (section_item spelling)
unfolding combine_items
sections_closed spelling [] = refl
sections_closed spelling (j ∷ js) = sections_closed spelling js

-- ---- functions

pub larger_assoc : (a b c : Option ℕ) → larger (larger a b) c ≡ larger a (larger b c)
larger_assoc none b c = refl
larger_assoc (some a) none c = refl
larger_assoc (some a) (some b) none = refl
larger_assoc (some a) (some b) (some c) = let e : max (max a b) c ≡ max a (max b c) = omega arith in ap (λ (n : ℕ). some n) e

pub larger-none : (a : Option ℕ) → larger a none ≡ a
larger-none none = refl
larger-none (some a) = refl

-- an extent, and one more
extents_more : {B : Type 0} (x y : Option Extent) (starts ends : List (Option ℕ)) (next : Option Extent → Answer B) (made : Bool → Option Extent → Option B)
    → ((u : Option Extent) → made false u ≡ none)
    → ((u : Option Extent) → value (next u) ≡ made (agreeing eqb (given_start u ∷ starts)) (extent_from (given (given_start u ∷ starts)) (largest (given_end u ∷ ends))))
    → value (bind (combine_extents Checked x y) next)
    ≡ made (agreeing eqb (given_start x ∷ given_start y ∷ starts)) (extent_from (given (given_start x ∷ given_start y ∷ starts)) (largest (given_end x ∷ given_end y ∷ ends)))
unfolding combine_extents agreeing given all_agree largest
extents_more none y starts ends next made n h = h y
extents_more (some a) none starts ends next made n h = h (some a)
extents_more {B} (some a) (some b) starts ends next made n h = go (eqb a.start b.start)
  where
    all : Option ℕ
    all = larger a.end (larger b.end (largest ends))

    go : (test : Bool) → value (bind (if test then accepted (some (join_extents a b)) else refuse UnmatchedFunctionLine) next)
        ≡ made (test && all_agree eqb a.start starts) (some (extent_at a.start all))
    go true =
        h (some (join_extents a b))
        ∙ ap (λ (e : Option ℕ). made (all_agree eqb a.start starts) (some (extent_at a.start e))) (larger_assoc a.end b.end (largest ends))
    go false = sym (n _)

extent-alone : {B : Type 0} (x : Option Extent) (made : Bool → Option Extent → Option B)
    → made true x ≡ made (agreeing eqb (given_start x ∷ [])) (extent_from (given (given_start x ∷ [])) (largest (given_end x ∷ [])))
unfolding agreeing given all_agree largest
extent-alone none made = refl
extent-alone (some a) made = ap (λ (e : Option ℕ). made true (some (extent_at a.start e))) (sym (larger-none a.end))

functions_closed : (f : Function) (js : List Item) → f.count ≤ u64_max
    → value (join_items (function_item f) js)
    ≡ when (agreeing eqb (given_start f.extent ∷ map start_of js))
    (function_item (updated f (extent_from (given (given_start f.extent ∷ map start_of js)) (largest (given_end f.extent ∷ map end_of js))) (min (f.count + total (map count_of js)) u64_max)))
unfolding combine_items total
functions_closed f [] h =
    ap (λ (n : ℕ). some (function_item (updated f f.extent n))) (omega arith)
    ∙ extent-alone f.extent (λ t u. when t (function_item (updated f u (min (f.count + 0) u64_max))))
functions_closed f (j ∷ js) h =
    ap value (bind_assoc (combine_extents Checked f.extent (extent_of j)) (λ u. accepted (function_item (updated f u m))) (λ k. join_items k js))
    ∙ extents_more f.extent (extent_of j) (map start_of js) (map end_of js) (λ u. join_items (function_item (updated f u m)) js)
    (λ t u. when t (function_item (updated f u (min (m + rest) u64_max)))) (λ u. refl) (λ u. functions_closed (updated f u m) js (omega arith))
    ∙ ap (λ (n : ℕ). when (agreeing eqb starts) (function_item (updated f (extent_from (given starts) (largest (given_end f.extent ∷ end_of j ∷ map end_of js))) n))) (omega arith)
  where
    starts : List (Option ℕ)
    starts = given_start f.extent ∷ start_of j ∷ map start_of js

    m : ℕ
    m = min (f.count + count_of j) u64_max

    rest : ℕ
    rest = total (map count_of js)

-- ---- lines

and_false : (b : Bool) → (b && false) ≡ false
and_false true = refl
and_false false = refl

-- a sum with one more
sum_more : {B : Type 0} (fault : Fault) (a b rest : ℕ) (next : ℕ → Answer B) (test : Bool) (made : ℕ → B)
    → (a + b ≤ u64_max → value (next (a + b)) ≡ when (test && leb (a + b + rest) u64_max) (made (a + b + rest)))
    → value (bind (sum fault a b) next) ≡ when (test && leb (a + (b + rest)) u64_max) (made (a + (b + rest)))
unfolding sum
sum_more fault a b rest next test made h = go (leb (a + b) u64_max) refl
  where
    go : (t : Bool) → leb (a + b) u64_max ≡ t
        → value (bind (if t then accepted (a + b) else refuse fault) next) ≡ when (test && leb (a + (b + rest)) u64_max) (made (a + (b + rest)))
    go true e = h (leb-true (a + b) u64_max e) ∙ ap (λ (n : ℕ). when (test && leb n u64_max) (made n)) (add_assoc a b rest)
    go false e =
        let past : leb (a + (b + rest)) u64_max ≡ false = lt-leb (a + (b + rest)) u64_max (omega (arith, leb-false (a + b) u64_max e)) in
        ap (λ (t : Bool). when t (made (a + (b + rest)))) (sym (and_false test) ∙ ap (λ (t : Bool). test && t) (sym past))

lines_closed : (line c : ℕ) (s : Option Bytes) (js : List Item) → c ≤ u64_max
    → value (join_items (line_item line c s) js)
    ≡ when (agreeing same_bytes (s ∷ map checksum_of js) && leb (c + total (map count_of js)) u64_max)
    (line_item line (c + total (map count_of js)) (given (s ∷ map checksum_of js)))
unfolding combine_items total
lines_closed line c s [] h =
    ap (λ (t : Bool). when t (line_item line c s)) (sym (le-leb (c + 0) u64_max (omega arith)))
    ∙ ap (λ (n : ℕ). when (leb (c + 0) u64_max) (line_item line n s)) (sym (add-zero c))
    ∙ agree-one same_bytes UnmatchedChecksum s (λ t u. when (t && leb (c + 0) u64_max) (line_item line (c + 0) u))
lines_closed line c s (j ∷ js) h =
    ap value (bind_assoc (agree same_bytes Checked UnmatchedChecksum s (checksum_of j)) (λ u. bind (sum CountOverflow c (count_of j)) (λ n. accepted (line_item line n u))) (λ k. join_items k js))
    ∙ agree-more same_bytes UnmatchedChecksum s (checksum_of j) (map checksum_of js)
    (λ u. bind (bind (sum CountOverflow c (count_of j)) (λ n. accepted (line_item line n u))) (λ k. join_items k js))
    (λ t u. when (t && leb (c + (count_of j + rest)) u64_max) (line_item line (c + (count_of j + rest)) u)) (λ u. refl)
    (λ u. ap value (bind_assoc (sum CountOverflow c (count_of j)) (λ n. accepted (line_item line n u)) (λ k. join_items k js))
    ∙ sum_more CountOverflow c (count_of j) rest (λ n. join_items (line_item line n u) js) (agreeing same_bytes (u ∷ map checksum_of js))
    (λ n. line_item line n (given (u ∷ map checksum_of js)))
    (λ i. lines_closed line (c + count_of j) u js i))
  where
    rest : ℕ
    rest = total (map count_of js)

-- ---- branches

abbrev pub or_zero : Option ℕ → ℕ
or_zero none = 0
or_zero (some n) = n

-- branches, whose counts are counts
abbrev pub Branches : List Item → Type 0
Branches [] = Unit {0}
Branches (j ∷ js) = (count_of j ≡ or_zero (taken_of j)) × (count_of j ≤ u64_max) × Branches js

add_given-sum : (a b : ℕ) (t : Option ℕ) → add_given (some (a + b)) t ≡ add_given (some a) (add_given (some b) t)
add_given-sum a b none = refl
add_given-sum a b (some m) = ap (λ (n : ℕ). some n) (add_assoc a b m)

branches_closed : (line block branch : ℕ) (t : Option ℕ) (js : List Item) → or_zero t ≤ u64_max → Branches js
    → value (join_items (branch_item line block branch t) js)
    ≡ when (leb (or_zero t + total (map count_of js)) u64_max) (branch_item line block branch (total_given (t ∷ map taken_of js)))
unfolding combine_items sum_taken total total_given
branches_closed line block branch t [] h b =
    ap (λ (x : Bool). when x (branch_item line block branch t)) (sym (le-leb (or_zero t + 0) u64_max (omega arith)))
    ∙ ap (λ (u : Option ℕ). when (leb (or_zero t + 0) u64_max) (branch_item line block branch u)) (add_none t)
  where
    add_none : (t : Option ℕ) → t ≡ add_given t none
    add_none none = refl
    add_none (some a) = refl
branches_closed line block branch t (j ∷ js) h b = go t (taken_of j) h b.0 (λ u i. branches_closed line block branch u js i b.2)
  where
    rest : ℕ
    rest = total (map count_of js)

    flatten : (r : Answer ℕ)
        → value (bind (bind (bind r (λ n. accepted (some n))) (λ u. accepted (branch_item line block branch u))) (λ k. join_items k js))
        ≡ value (bind r (λ n. join_items (branch_item line block branch (some n)) js))
    flatten (accepted n) = refl
    flatten (refused r) = refl

    go : (t u : Option ℕ) → or_zero t ≤ u64_max → count_of j ≡ or_zero u
        → ((v : Option ℕ) → or_zero v ≤ u64_max → value (join_items (branch_item line block branch v) js)
        ≡ when (leb (or_zero v + rest) u64_max) (branch_item line block branch (add_given v (total_given (map taken_of js)))))
        → value (bind (bind (sum_taken t u) (λ n. accepted (branch_item line block branch n))) (λ k. join_items k js))
        ≡ when (leb (or_zero t + (count_of j + rest)) u64_max) (branch_item line block branch (add_given t (add_given u (total_given (map taken_of js)))))
    go t none h e ih =
        let f : or_zero t + rest ≡ or_zero t + (count_of j + rest) = omega (arith, e) in
        ih t h ∙ ap (λ (n : ℕ). when (leb n u64_max) (branch_item line block branch (add_given t (total_given (map taken_of js))))) f
    go none (some n) h e ih =
        let f : n + rest ≡ 0 + (count_of j + rest) = omega (arith, e) in
        ih (some n) (omega (arith, e, b.1))
        ∙ ap (λ (m : ℕ). when (leb m u64_max) (branch_item line block branch (add_given (some n) (total_given (map taken_of js))))) f
    go (some a) (some n) h e ih =
        flatten (sum CountOverflow a n)
        ∙ sum_more CountOverflow a n rest (λ m. join_items (branch_item line block branch (some m)) js) true
        (λ m. branch_item line block branch (add_given (some a) (add_given (some n) (total_given (map taken_of js)))))
        (λ i. ih (some (a + n)) i
        ∙ ap (λ (u : Option ℕ). when (leb (a + n + rest) u64_max) (branch_item line block branch u)) (add_given-sum a n (total_given (map taken_of js))))
        ∙ ap (λ (m : ℕ). when (leb (a + (m + rest)) u64_max) (branch_item line block branch (add_given (some a) (add_given (some n) (total_given (map taken_of js))))))
        (sym e)

-- ---- any kind

-- an item whose count is a count
abbrev pub Counted : Item → Type 0
Counted i = count_of i ≤ u64_max

-- items of the first one's kind, whose counts are counts: that is asked of branches, where a count may be none
abbrev pub Like : Item → List Item → Type 0
Like (section_item spelling) js = Unit {0}
Like (function_item f) js = Unit {0}
Like (branch_item line block branch taken) js = Branches js
Like (line_item line count checksum) js = Unit {0}

-- CLOSED FORM: items of one key are joined exactly when they are joinable, to the joined item
pub items_closed : (i : Item) (js : List Item) → Counted i → Like i js
    → value (join_items i js) ≡ cond (joinable_as i (i ∷ js)) (some (joined_as i (i ∷ js))) none
unfolding joinable_as joined_as count_of taken_of extent_of checksum_of total
items_closed (section_item spelling) js c l = ap value (sections_closed spelling js)
items_closed (function_item f) js c l = functions_closed f js c
items_closed (branch_item line block branch none) js c l = branches_closed line block branch none js c l
items_closed (branch_item line block branch (some taken)) js c l = branches_closed line block branch (some taken) js c l
items_closed (line_item line count checksum) js c l = lines_closed line count checksum js c
