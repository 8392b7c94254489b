-- The calls of the functions in a list of items. Assumes nothing.
use mathlib.Core.Path.{◌≡◌, refl, sym, ap, ◌∙◌}
use mathlib.Core.Bool.{Bool, true, false, not, cond}
use mathlib.Core.List.{List, [], ◌∷◌, ◌++◌}
use Prim.Native.Nat.{ℕ, ◌+◌, ◌-◌, ◌%◌, ◌≤◌, ◌<◌, Ordering}
use native.Mathlib.Omega.{arith}
use lib.Dec.{compare_is_eq, leb, ltb}
use borrow.Author.Tests.{le-leb, ltb-true}
use Rattle.ordmap.specs.Result.{accepted, bind, map_accepted}
use Rattle.ordmap.specs.Keyed.{by_order, with_key, add}
use Rattle.ordmap.proofs.Results.{accepted_inj, not_accepted, impossible, map_accepted-accepted}
use Rattle.model.specs.declared.Fault.TheVariants.{CallOverflow}
use Rattle.model.specs.Limits.{u64_max}
use Rattle.model.specs.Bytes.{compare_bytes}
use Rattle.model.specs.Answer.{Answer, refuse}
use Rattle.model.specs.Report.{Function, updated, Item, section_item, function_item, branch_item, line_item, item_key, compare_items, count_of, sum}
use Rattle.model.specs.Reading.{replace, add_calls}
use Rattle.table_item.specs.Combining.{combine_of, no_extent, is_calls, calls_of, with_calls, renewed}
use Rattle.model.proofs.KeyOrder.{bytes-order}
use Rattle.section_upsert.proofs.ItemLaws.{same_key}
use Rattle.section_tail.specs.Tail.{include, include_all, calls_in, more_calls}
use Rattle.section_tail.proofs.TailLaws.{renewed-key}

-- ---- two items of one key

with_calls_lem : (x e : Item) → calls_of (with_calls x e) ≤ calls_of x + calls_of e
unfolding with_calls calls_of
with_calls_lem (section_item s) e = omega arith
with_calls_lem (function_item f) e = omega arith
with_calls_lem (branch_item l b h t) e = omega arith
with_calls_lem (line_item l c s) e = omega arith

pub renewed-calls : (x e : Item) → calls_of (renewed x e) ≤ calls_of x + calls_of e
renewed-calls x e = go (is_calls e)
  where
    go : (b : Bool) → calls_of (cond b (with_calls x e) e) ≤ calls_of x + calls_of e
    go true = with_calls_lem x e
    go false = omega arith

-- what an FNDA line gives has no count but its calls
calls_count : (e : Item) → is_calls e ≡ true → count_of e ≡ calls_of e
unfolding is_calls count_of calls_of
calls_count (section_item s) q = impossible cc
calls_count (function_item f) q = refl
calls_count (branch_item l b h t) q = impossible cc
calls_count (line_item l c s) q = impossible cc

module _ (e : Item) (q : is_calls e ≡ true) where
  -- the calls are added, if they fit
  calls-added : (x : Item) → calls_of x + calls_of e ≤ u64_max → add_calls x e ≡ accepted (with_calls x e)
  unfolding add_calls with_calls calls_of sum
  calls-added (section_item s) h = refl
  calls-added (function_item f) h = rw (calls_count e q, le-leb (f.count + calls_of e) u64_max h)
  calls-added (branch_item l b s t) h = refl
  calls-added (line_item l c s) h = refl

  -- and what was added is exact
  pub calls_exact : (x : Item) {y : Item} → add_calls x e ≡ accepted y → y ≡ renewed x e
  unfolding add_calls with_calls sum
  calls_exact (section_item s) p = rw q (accepted_inj (sym p))
  calls_exact (function_item f) {y} p = rw q (go (leb (f.count + count_of e) u64_max) p)
    where
      go : (b : Bool) → bind (cond b (accepted (f.count + count_of e)) (refuse CallOverflow)) (λ total. accepted (function_item (updated f f.extent total))) ≡ accepted y
          → y ≡ function_item (updated f f.extent (f.count + calls_of e))
      go true r = sym (accepted_inj r) ∙ ap (λ (n : ℕ). function_item (updated f f.extent (f.count + n))) (calls_count e q)
      go false r = absurd (not_accepted r)
  calls_exact (branch_item l b s t) p = rw q (accepted_inj (sym p))
  calls_exact (line_item l c s) p = rw q (accepted_inj (sym p))

-- ---- lists

pub calls-append : (xs ys : List Item) → calls_in (xs ++ ys) ≡ calls_in xs + calls_in ys
unfolding calls_in
calls-append [] ys = omega arith
calls-append (x ∷ xs) ys = omega (arith, calls-append xs ys)

pub calls-one : (e : Item) → calls_in (e ∷ []) ≡ calls_of e
unfolding calls_in
calls-one e = omega arith

module _ (k : List ℕ) where
  -- the calls of one key
  abbrev pub key_calls : List Item → ℕ
  key_calls l = calls_in (with_key item_key compare_bytes k l)

  -- are among all
  pub key-calls : (l : List Item) → key_calls l ≤ calls_in l
  unfolding calls_in
  key-calls [] = omega arith
  key-calls (x ∷ xs) = go (compare_is_eq (compare_bytes k (item_key x))) (key-calls xs)
    where
      go : (b : Bool) → key_calls xs ≤ calls_in xs → calls_in (cond b (x ∷ with_key item_key compare_bytes k xs) (with_key item_key compare_bytes k xs)) ≤ calls_of x + calls_in xs
      go true h = omega arith
      go false h = omega arith

  key_head : (x : Item) (xs : List Item) → key_calls (x ∷ xs) ≡ key_calls (x ∷ []) + key_calls xs
  unfolding calls_in
  key_head x xs = go (compare_is_eq (compare_bytes k (item_key x)))
    where
      go : (b : Bool) → calls_in (cond b (x ∷ with_key item_key compare_bytes k xs) (with_key item_key compare_bytes k xs)) ≡ calls_in (cond b (x ∷ []) []) + key_calls xs
      go true = omega arith
      go false = omega arith

  key_one : (x : Item) → compare_is_eq (compare_bytes k (item_key x)) ≡ true → key_calls (x ∷ []) ≡ calls_of x
  unfolding calls_in
  key_one x q = rw q (omega arith)

  pub key-none : key_calls [] ≡ 0
  unfolding calls_in
  key-none = refl

  pub key-append : (xs ys : List Item) → key_calls (xs ++ ys) ≡ key_calls xs + key_calls ys
  unfolding calls_in
  key-append [] ys = omega arith
  key-append (x ∷ xs) ys = omega (arith, key_head x (xs ++ ys), key_head x xs, key-append xs ys)

  renewed-key-calls : (x e : Item) → item_key x ≡ item_key e → key_calls (renewed x e ∷ []) ≤ key_calls (x ∷ []) + key_calls (e ∷ [])
  unfolding calls_in
  renewed-key-calls x e q = rw (renewed-key x e q, ← q) (go (compare_is_eq (compare_bytes k (item_key x))))
    where
      go : (b : Bool) → calls_in (cond b (renewed x e ∷ []) []) ≤ calls_in (cond b (x ∷ []) []) + calls_in (cond b (e ∷ []) [])
      go true = omega (arith, renewed-calls x e)
      go false = omega arith

  -- an included item has its calls more at most
  include-key-calls : (e : Item) (l : List Item) → key_calls (include e l) ≤ key_calls l + key_calls (e ∷ [])
  unfolding include
  include-key-calls e [] = omega (arith, key_head e [])
  include-key-calls e (x ∷ xs) = go (compare_items e x) refl (include-key-calls e xs)
    where
      go : (o : Ordering) → compare_items e x ≡ o → key_calls (include e xs) ≤ key_calls xs + key_calls (e ∷ [])
          → key_calls (by_order o (e ∷ x ∷ xs) (renewed x e ∷ xs) (x ∷ include e xs)) ≤ key_calls (x ∷ xs) + key_calls (e ∷ [])
      go Ordering.lt q h = omega (arith, key_head e (x ∷ xs))
      go Ordering.eq q h = omega (arith, key_head (renewed x e) xs, key_head x xs, renewed-key-calls x e (sym (same_key e x q)))
      go Ordering.gt q h = omega (arith, key_head x (include e xs), key_head x xs)

  pub included_key-calls : (es m : List Item) → key_calls (include_all m es) ≤ key_calls m + key_calls es
  unfolding include_all calls_in
  included_key-calls [] m = omega arith
  included_key-calls (e ∷ es) m = omega (arith, included_key-calls es (include e m), include-key-calls e m, key_head e es)

pub key_itself : (e : Item) → key_calls (item_key e) (e ∷ []) ≡ calls_of e
key_itself e = key_one (item_key e) e (ap compare_is_eq (bytes-order.same (item_key e)))

include-calls : (e : Item) (l : List Item) → calls_in (include e l) ≤ calls_in l + calls_of e
unfolding include calls_in
include-calls e [] = omega arith
include-calls e (x ∷ xs) = go (compare_items e x) (include-calls e xs)
  where
    go : (o : Ordering) → calls_in (include e xs) ≤ calls_in xs + calls_of e → calls_in (by_order o (e ∷ x ∷ xs) (renewed x e ∷ xs) (x ∷ include e xs)) ≤ calls_of x + calls_in xs + calls_of e
    go Ordering.lt h = omega arith
    go Ordering.eq h = omega (arith, renewed-calls x e)
    go Ordering.gt h = omega arith

pub included_calls : (es m : List Item) → calls_in (include_all m es) ≤ calls_in m + calls_in es
unfolding include_all calls_in
included_calls [] m = omega arith
included_calls (e ∷ es) m = omega (arith, included_calls es (include e m), include-calls e m)

-- ---- the model's combinations

-- what replaces is included
pub plain_included : (e : Item) (l : List Item) → is_calls e ≡ false → add item_key compare_bytes replace e l ≡ accepted (include e l)
unfolding include compare_items
plain_included e [] b = refl
plain_included e (x ∷ xs) b = go (compare_items e x) refl (plain_included e xs b)
  where
    go : (o : Ordering) → compare_items e x ≡ o → add item_key compare_bytes replace e xs ≡ accepted (include e xs)
        → add item_key compare_bytes replace e (x ∷ xs) ≡ accepted (include e (x ∷ xs))
    go Ordering.lt q h = rw q
    go Ordering.eq q h = rw (q, b) refl
    go Ordering.gt q h = rw q (ap (λ (r : Answer (List Item)). map_accepted (λ ys. x ∷ ys) r) h)

-- so is what adds, if its calls fit
pub calls_included : (e : Item) (l : List Item) → is_calls e ≡ true → key_calls (item_key e) l + calls_of e ≤ u64_max → add item_key compare_bytes add_calls e l ≡ accepted (include e l)
unfolding include compare_items
calls_included e [] b h = refl
calls_included e (x ∷ xs) b h = go (compare_items e x) refl (λ f. calls_included e xs b f)
  where
    go : (o : Ordering) → compare_items e x ≡ o → (key_calls (item_key e) xs + calls_of e ≤ u64_max → add item_key compare_bytes add_calls e xs ≡ accepted (include e xs))
        → add item_key compare_bytes add_calls e (x ∷ xs) ≡ accepted (include e (x ∷ xs))
    go Ordering.lt q f = rw q
    go Ordering.eq q f =
        let z : calls_of x + calls_of e ≤ u64_max = omega (arith, h, key_head (item_key e) x xs, key_one (item_key e) x (ap compare_is_eq q)) in
        rw (q, b) (ap (λ (r : Answer Item). map_accepted (λ y. y ∷ xs) r) (calls-added e b x z))
    go Ordering.gt q f = rw q (ap (λ (r : Answer (List Item)). map_accepted (λ ys. x ∷ ys) r) (f (omega (arith, h, key_head (item_key e) x xs))))

-- either, as its line combines it
pub line_included : (adds : Bool) (e : Item) (l : List Item) → is_calls e ≡ adds → (adds ≡ true → key_calls (item_key e) l + calls_of e ≤ u64_max)
    → add item_key compare_bytes (combine_of adds) e l ≡ accepted (include e l)
line_included true e l b h = calls_included e l b (h refl)
line_included false e l b h = plain_included e l b

-- what two items make has at most the calls of both
combined_calls : (adds : Bool) (e : Item) → is_calls e ≡ adds → (x : Item) {y : Item} → combine_of adds x e ≡ accepted y → calls_of y ≤ calls_of x + calls_of e
combined_calls true e b x p = rw (calls_exact e b x p) (renewed-calls x e)
combined_calls false e b x p = rw (← (accepted_inj p)) (omega arith)

-- an item more has its calls more at most
pub added-calls : (adds : Bool) (e : Item) (l : List Item) {m : List Item} → is_calls e ≡ adds → add item_key compare_bytes (combine_of adds) e l ≡ accepted m → calls_in m ≤ calls_in l + calls_of e
unfolding calls_in
added-calls adds e [] b p = rw (← (accepted_inj p)) (omega arith)
added-calls adds e (x ∷ xs) {m} b p = go (compare_bytes (item_key e) (item_key x)) p (λ ys c. added-calls adds e xs b c)
  where
    go : (o : Ordering)
        → by_order o (accepted (e ∷ x ∷ xs)) (map_accepted (λ y. y ∷ xs) (combine_of adds x e)) (map_accepted (λ ys. x ∷ ys) (add item_key compare_bytes (combine_of adds) e xs)) ≡ accepted m
        → ((ys : List Item) → add item_key compare_bytes (combine_of adds) e xs ≡ accepted ys → calls_in ys ≤ calls_in xs + calls_of e)
        → calls_in m ≤ calls_of x + calls_in xs + calls_of e
    go Ordering.lt q h = rw (← (accepted_inj q)) (omega arith)
    go Ordering.eq q h =
        let (y, c, f) = map_accepted-accepted (λ y. y ∷ xs) (combine_of adds x e) q in
        rw (← f) (omega (arith, combined_calls adds e b x c))
    go Ordering.gt q h =
        let (ys, c, f) = map_accepted-accepted (λ ys. x ∷ ys) (add item_key compare_bytes (combine_of adds) e xs) q in
        rw (← f) (omega (arith, h ys c))

-- ---- calls after an item of their function

function-last : (last e : Item) → is_calls e ≡ true → item_key last ≡ item_key e → (f : Function) × (last ≡ function_item f)
unfolding is_calls item_key
function-last (function_item f) e b q = (f, refl)
function-last (section_item s) (function_item g) b q = impossible cc
function-last (section_item s) (section_item t) b q = impossible cc
function-last (section_item s) (branch_item l c h t) b q = impossible cc
function-last (section_item s) (line_item l c t) b q = impossible cc
function-last (branch_item l c h t) (function_item g) b q = impossible cc
function-last (branch_item l c h t) (section_item s) b q = impossible cc
function-last (branch_item l c h t) (branch_item l' c' h' t') b q = impossible cc
function-last (branch_item l c h t) (line_item l' c' s) b q = impossible cc
function-last (line_item l c s) (function_item g) b q = impossible cc
function-last (line_item l c s) (section_item t) b q = impossible cc
function-last (line_item l c s) (branch_item l' c' h t) b q = impossible cc
function-last (line_item l c s) (line_item l' c' t) b q = impossible cc

with_twice : (x : Item) (f : Function) (e : Item) → with_calls (with_calls x (function_item f)) e ≡ with_calls x (with_calls (function_item f) e)
unfolding with_calls calls_of
with_twice (section_item s) f e = refl
with_twice (function_item g) f e = ap (λ (n : ℕ). function_item (updated g g.extent n)) (let z : g.count + f.count + calls_of e ≡ g.count + (f.count + calls_of e) = omega arith in z)
with_twice (branch_item l b h t) f e = refl
with_twice (line_item l c s) f e = refl

renewed_twice : (x : Item) (f : Function) (e : Item) → is_calls e ≡ true → renewed (renewed x (function_item f)) e ≡ renewed x (renewed (function_item f) e)
unfolding is_calls with_calls
renewed_twice x f e b = rw b (go (no_extent f.extent))
  where
    go : (t : Bool) → with_calls (cond t (with_calls x (function_item f)) (function_item f)) e
        ≡ cond t (with_calls x (function_item (updated f f.extent (f.count + calls_of e)))) (function_item (updated f f.extent (f.count + calls_of e)))
    go true = with_twice x f e
    go false = refl

-- calls that come right after an item of their function may be added to it
pub include_twice : (last e : Item) → is_calls e ≡ true → item_key last ≡ item_key e → (l : List Item) → include e (include last l) ≡ include (renewed last e) l
unfolding include compare_items
include_twice last e b q [] = rw (sym q, bytes-order.same (item_key last)) refl
include_twice last e b q (x ∷ xs) = go (compare_items last x) refl (include_twice last e b q xs)
  where
    key : item_key (renewed last e) ≡ item_key last
    key = renewed-key last e q

    go : (o : Ordering) → compare_items last x ≡ o → include e (include last xs) ≡ include (renewed last e) xs
        → include e (include last (x ∷ xs)) ≡ include (renewed last e) (x ∷ xs)
    go Ordering.lt p h = rw (p, key, p, sym q, bytes-order.same (item_key last)) refl
    go Ordering.eq p h =
        let (f, z) = function-last last e b q in
        rw (p, key, p, renewed-key x last (sym (bytes-order.equal p)), sym q, p) (rw z (ap (λ (y : Item). y ∷ xs) (renewed_twice x f e b)))
    go Ordering.gt p h = rw (p, key, p, sym q, p) (ap (λ (l : List Item). x ∷ l) h)

-- ---- sums of calls

pub not_false : (a : Bool) → not a ≡ false → a ≡ true
not_false true q = refl
not_false false q = impossible cc

-- as `more_calls` and `calls_fit` find them
module _ (calls n : ℕ) where
  pub more_same : (adds : Bool) → not adds ≡ true → calls ≡ more_calls adds calls n
  more_same true q = impossible cc
  more_same false q = refl

  pub more-most : (adds : Bool) → not adds ≡ false → u64_max < calls + n → u64_max ≡ more_calls adds calls n
  more-most true q h = omega arith
  more-most false q h = impossible cc

  pub more-sum : (adds : Bool) → not adds ≡ false → calls + n ≤ u64_max → calls + n ≡ more_calls adds calls n
  more-sum true q h = omega arith
  more-sum false q h = impossible cc

  pub fits_with : (adds : Bool) → adds ≡ true → calls ≤ u64_max → ltb n (u64_max - calls) ≡ true → calls + cond adds n 0 < u64_max
  fits_with true q h t = omega (arith, ltb-true n (u64_max - calls) t)
  fits_with false q h t = impossible cc

  pub fits_without : (adds : Bool) → adds ≡ false → ltb calls u64_max ≡ true → calls + cond adds n 0 < u64_max
  fits_without true q t = impossible cc
  fits_without false q t = omega (arith, ltb-true calls u64_max t)

-- a number of flushes, with or without hints, has room for one more
pub one_more : (n : ℕ) → n ≤ u64_max → ltb (n % 16) 8 ≡ true → n + 1 ≤ u64_max
one_more n l t = omega (arith, ltb-true (n % 16) 8 t)
