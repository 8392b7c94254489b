-- Items included one after the other: the result depends only on the order within each key. Assumes nothing.
use mathlib.Core.Path.{◌≡◌, refl, sym, ap, ◌∙◌}
use mathlib.Core.Bool.{Bool, true, false, cond}
use mathlib.Core.Option.{none}
use mathlib.Core.List.{List, [], ◌∷◌, ◌++◌}
use Prim.Native.Nat.{ℕ, suc, ◌+◌, ◌≤◌, Ordering}
use native.Mathlib.Omega.{arith}
use lib.ListN.{length}
use Rattle.ordmap.specs.Result.{Result, accepted, bind, map_accepted}
use Rattle.ordmap.specs.Keyed.{by_order, Sorted, with_key, join_all, Keyed, add, add_all}
use Rattle.ordmap.proofs.Results.{accepted_inj, map_accepted-accepted}
use Rattle.ordmap.proofs.Adding.{add_all_empty}
use Rattle.ordmap.proofs.Exact.{add_all-exactly}
use Rattle.model.specs.Bytes.{compare_bytes}
use Rattle.model.specs.Answer.{Answer}
use Rattle.model.specs.Report.{Item, section_item, function_item, branch_item, line_item, item_key, compare_items}
use Rattle.model.proofs.KeyOrder.{bytes-order}
use Rattle.table_item.specs.Combining.{is_calls, with_calls, renewed}
use Rattle.section_tail.specs.Tail.{include, include_all}

-- ---- counts

module _ {R E K : Type 0} (key : E → K) (cmp : K → K → Ordering) (combine : E → E → Result R E) where
  -- a map has at most one entry more
  pub add_most : (e : E) (m n : List E) → add key cmp combine e m ≡ accepted n → length n ≤ suc (length m)
  add_most e [] n p = rw (← (accepted_inj p)) (omega arith)
  add_most e (x ∷ xs) n p = go (cmp (key e) (key x)) p (λ ys q. add_most e xs ys q)
    where
      go : (o : Ordering)
          → by_order o (accepted (e ∷ x ∷ xs)) (map_accepted (λ y. y ∷ xs) (combine x e))
          (map_accepted (λ ys. x ∷ ys) (add key cmp combine e xs)) ≡ accepted n
          → ((ys : List E) → add key cmp combine e xs ≡ accepted ys → length ys ≤ suc (length xs)) → length n ≤ suc (length (x ∷ xs))
      go Ordering.lt q r = rw (← (accepted_inj q)) (omega arith)
      go Ordering.eq q r =
          let (y, c, f) = map_accepted-accepted (λ y. y ∷ xs) (combine x e) q in
          rw (← f) (omega arith)
      go Ordering.gt q r =
          let (ys, c, f) = map_accepted-accepted (λ ys. x ∷ ys) (add key cmp combine e xs) q in
          rw (← f) (omega (arith, r ys c))

-- ---- an included item

-- the two combined, with no limit
abbrev pub renew : Item → Item → Answer Item
renew earlier later = accepted (renewed earlier later)

with_key_lem : (x e : Item) → item_key x ≡ item_key e → item_key (with_calls x e) ≡ item_key x
unfolding with_calls item_key
with_key_lem (section_item s) e q = sym q
with_key_lem (function_item f) e q = refl
with_key_lem (branch_item l b h t) e q = sym q
with_key_lem (line_item l c s) e q = sym q

pub renewed-key : (x e : Item) → item_key x ≡ item_key e → item_key (renewed x e) ≡ item_key x
renewed-key x e q = go (is_calls e)
  where
    go : (b : Bool) → item_key (cond b (with_calls x e) e) ≡ item_key x
    go true = with_key_lem x e q
    go false = sym q

renew_keyed : Keyed item_key compare_bytes renew
renew_keyed = record { keeps = λ {x} {e} {y} h p. ap item_key (sym (accepted_inj p)) ∙ renewed-key x e h }

include-added : (e : Item) (l : List Item) → add item_key compare_bytes renew e l ≡ accepted (include e l)
unfolding include compare_items
include-added e [] = refl
include-added e (x ∷ xs) = go (compare_items e x) refl (include-added e xs)
  where
    go : (o : Ordering) → compare_items e x ≡ o → add item_key compare_bytes renew e xs ≡ accepted (include e xs)
        → add item_key compare_bytes renew e (x ∷ xs) ≡ accepted (include e (x ∷ xs))
    go Ordering.lt q ih = rw q
    go Ordering.eq q ih = rw q
    go Ordering.gt q ih = rw q (ap (λ (r : Answer (List Item)). map_accepted (λ ys. x ∷ ys) r) ih)

pub include-length : (e : Item) (l : List Item) → length (include e l) ≤ suc (length l)
include-length e l = add_most item_key compare_bytes renew e l (include e l) (include-added e l)

-- ---- one after the other

included_added : (es m : List Item) → add_all item_key compare_bytes renew es m ≡ accepted (include_all m es)
unfolding include_all
included_added [] m = refl
included_added (e ∷ es) m =
    ap (λ (r : Answer (List Item)). bind r (λ l. add_all item_key compare_bytes renew es l)) (include-added e m) ∙ included_added es (include e m)

pub included_length : (es m : List Item) → length (include_all m es) ≤ length m + length es
unfolding include_all
included_length [] m = omega arith
included_length (e ∷ es) m = omega (arith, included_length es (include e m), include-length e m)

pub included_append : (xs ys m : List Item) → include_all m (xs ++ ys) ≡ include_all (include_all m xs) ys
unfolding include_all
included_append [] ys m = refl
included_append (x ∷ xs) ys m = included_append xs ys (include x m)

-- one more at the end
pub included_last : (xs : List Item) (e : Item) (m : List Item) → include_all m (xs ++ e ∷ []) ≡ include e (include_all m xs)
unfolding include_all
included_last xs e m = included_append xs (e ∷ []) m

-- sorted items give themselves
pub included_sorted : (xs : List Item) → Sorted item_key compare_bytes xs → include_all [] xs ≡ xs
included_sorted xs s = accepted_inj (sym (included_added xs []) ∙ add_all_empty item_key compare_bytes renew bytes-order renew_keyed xs s)

-- lists that agree on each key give the same
pub included_keys : (xs ys : List Item) → ((k : List ℕ) → with_key item_key compare_bytes k xs ≡ with_key item_key compare_bytes k ys) → include_all [] xs ≡ include_all [] ys
included_keys xs ys h =
    let (s, f) = (add_all-exactly item_key compare_bytes renew bytes-order renew_keyed xs [] (include_all [] xs) tt).0 (included_added xs []) in
    accepted_inj (sym ((add_all-exactly item_key compare_bytes renew bytes-order renew_keyed ys [] (include_all [] xs) tt).1
    (s, λ k. ap (λ (l : List Item). join_all renew none l) (sym (h k)) ∙ f k)) ∙ included_added ys [])
