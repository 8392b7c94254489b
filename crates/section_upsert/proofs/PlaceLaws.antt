-- What the place of a key among sorted items says of them. Assumes nothing.
use mathlib.Core.Path.{◌≡◌, refl, sym, ap₂, subst, ◌∙◌}
use mathlib.Core.Logic.{◌≢◌}
use mathlib.Core.List.{List}
use Prim.Native.Nat.{ℕ, zero, suc, ◌≤◌, ◌<◌, Ordering}
use native.Mathlib.Omega.{arith}
use Rattle.table.specs.Places.{tabulate}
use Rattle.table.proofs.PlaceLaws.{by-lt}
use Rattle.ordmap.specs.Keyed.{by_order, Sorted}
use Rattle.ordmap.proofs.Results.{impossible}
use Rattle.model.specs.Bytes.{compare_bytes}
use Rattle.model.specs.Report.{Item, item_key, compare_items}
use Rattle.std.specs.Prelude.{Result, Ok, Err}
use Rattle.table_item.specs.SortedItems.{place, next}
use Rattle.table_item.proofs.SearchLaws.{sorted_at}
use Rattle.section_upsert.proofs.ItemLaws.{less-less, same_left, same-right, Absent, Apart}

-- ---- a key that none of the n items has

-- e comes after the first i of them, and before the others
pub record Between (e : Item) (f : ℕ → Item) (n i : ℕ) : Type 0 where
  pub most : i ≤ n
  pub below : (k : ℕ) → k < i → compare_items e (f k) ≡ Ordering.gt
  pub above : (k : ℕ) → i ≤ k → k < n → compare_items e (f k) ≡ Ordering.lt

pub between : (e : Item) (f : ℕ → Item) (n i : ℕ) → Sorted item_key compare_bytes (tabulate f n) → place e (tabulate f n) ≡ Err i → Between e f n i
unfolding tabulate place compare_items
between e f zero i s q =
    let z : 0 ≡ i = cc in
    subst (λ (m : ℕ). Between e f 0 m) z (record { most = omega arith; below = λ k l. absurd (omega arith); above = λ k l m. absurd (omega arith) })
between e f (suc n) i s q = go (compare_items e (f 0)) refl q (λ j r. between e (λ k. f (suc k)) n j s.1 r)
  where
    behind : compare_items e (f 0) ≡ Ordering.lt → (k : ℕ) → k < suc n → compare_items e (f k) ≡ Ordering.lt
    behind o zero l = o
    behind o (suc k) l = less-less e (f 0) (f (suc k)) o (sorted_at item_key compare_bytes f (suc n) s 0 (suc k) (omega arith) l)

    later : compare_items e (f 0) ≡ Ordering.gt → (p : Result ℕ ℕ) → next p ≡ Err i → ((j : ℕ) → p ≡ Err j → Between e (λ k. f (suc k)) n j) → Between e f (suc n) i
    later o (Ok j) r ih = impossible cc
    later o (Err j) r ih =
        let z : suc j ≡ i = cc in
        subst (λ (m : ℕ). Between e f (suc n) m) z (record { most = omega (arith, β.most); below = below; above = above })
      where
        β : Between e (λ k. f (suc k)) n j
        β = ih j refl

        below : (k : ℕ) → k < suc j → compare_items e (f k) ≡ Ordering.gt
        below zero l = o
        below (suc k) l = β.below k (omega arith)

        above : (k : ℕ) → suc j ≤ k → k < suc n → compare_items e (f k) ≡ Ordering.lt
        above zero l m = absurd (omega arith)
        above (suc k) l m = β.above k (omega arith) (omega arith)

    go : (o : Ordering) → compare_items e (f 0) ≡ o → by_order o (Err 0) (Ok 0) (next (place e (tabulate (λ k. f (suc k)) n))) ≡ Err i
        → ((j : ℕ) → place e (tabulate (λ k. f (suc k)) n) ≡ Err j → Between e (λ k. f (suc k)) n j) → Between e f (suc n) i
    go Ordering.lt o r ih =
        let z : 0 ≡ i = cc in
        subst (λ (m : ℕ). Between e f (suc n) m) z (record { most = omega arith; below = λ k l. absurd (omega arith); above = λ k l m. behind o k m })
    go Ordering.eq o r ih = impossible cc
    go Ordering.gt o r ih = later o (place e (tabulate (λ k. f (suc k)) n)) r ih

-- ---- a key at position i

pub placed_key : (e : Item) (f : ℕ → Item) (n i : ℕ) → place e (tabulate f n) ≡ Ok i → compare_items e (f i) ≡ Ordering.eq
unfolding tabulate place
placed_key e f zero i q = impossible cc
placed_key e f (suc n) i q = go (compare_items e (f 0)) refl q (λ j r. placed_key e (λ k. f (suc k)) n j r)
  where
    later : (p : Result ℕ ℕ) → next p ≡ Ok i → ((j : ℕ) → p ≡ Ok j → compare_items e (f (suc j)) ≡ Ordering.eq) → compare_items e (f i) ≡ Ordering.eq
    later (Ok j) r ih = let z : suc j ≡ i = cc in subst (λ (m : ℕ). compare_items e (f m) ≡ Ordering.eq) z (ih j refl)
    later (Err j) r ih = impossible cc

    go : (o : Ordering) → compare_items e (f 0) ≡ o → by_order o (Err 0) (Ok 0) (next (place e (tabulate (λ k. f (suc k)) n))) ≡ Ok i
        → ((j : ℕ) → place e (tabulate (λ k. f (suc k)) n) ≡ Ok j → compare_items e (f (suc j)) ≡ Ordering.eq) → compare_items e (f i) ≡ Ordering.eq
    go Ordering.lt o r ih = impossible cc
    go Ordering.eq o r ih = let z : 0 ≡ i = cc in subst (λ (m : ℕ). compare_items e (f m) ≡ Ordering.eq) z o
    go Ordering.gt o r ih = later (place e (tabulate (λ k. f (suc k)) n)) r ih

-- ---- the place is a matter of keys

pub place-keys : (e e' : Item) → item_key e' ≡ item_key e → (f g : ℕ → Item) (n : ℕ) → ((k : ℕ) → k < n → item_key (g k) ≡ item_key (f k))
    → place e' (tabulate g n) ≡ place e (tabulate f n)
unfolding tabulate place
place-keys e e' q f g zero h = refl
place-keys e e' q f g (suc n) h =
    ap₂ (λ (o : Ordering) (p : Result ℕ ℕ). by_order o (Err 0) (Ok 0) (next p)) (same_left e' e (g 0) q ∙ same-right (g 0) (f 0) e (h 0 (omega arith)))
    (place-keys e e' q (λ k. f (suc k)) (λ k. g (suc k)) n (λ k l. h (suc k) (omega arith)))

-- ---- as lists

pub absent_tabulate : (e : Item) (f : ℕ → Item) (n : ℕ) → ((k : ℕ) → k < n → compare_items e (f k) ≢ Ordering.eq) → Absent e (tabulate f n)
unfolding tabulate
absent_tabulate e f zero h = tt
absent_tabulate e f (suc n) h = (h 0 (omega arith), absent_tabulate e (λ k. f (suc k)) n (λ k l. h (suc k) (omega arith)))

pub apart-tabulate : (xs : List Item) (h : ℕ → Item) (p : ℕ) → ((j : ℕ) → j < p → Absent (h j) xs) → Apart xs (tabulate h p)
unfolding tabulate
apart-tabulate xs h zero a = tt
apart-tabulate xs h (suc p) a = (a 0 (omega arith), apart-tabulate xs (λ j. h (suc j)) p (λ j l. a (suc j) (omega arith)))

pub between_absent : {e : Item} {f : ℕ → Item} {n i : ℕ} → Between e f n i → Absent e (tabulate f n)
between_absent {e} {f} {n} {i} β =
    absent_tabulate e f n (λ k l q. by-lt k i
    (λ h. let z : Ordering.gt ≡ Ordering.eq = sym (β.below k h) ∙ q in impossible cc)
    (λ h. let z : Ordering.lt ≡ Ordering.eq = sym (β.above k h l) ∙ q in impossible cc))
