-- The place of a key among sorted items. Assumes nothing.
use mathlib.Core.Path.{◌≡◌, refl, sym, ap, ◌∙◌}
use mathlib.Core.Logic.{◌≢◌}
use mathlib.Core.Bool.{Bool, true, false}
use mathlib.Core.List.{List}
use Prim.Native.Nat.{ℕ, zero, suc, ◌+◌, ◌-◌, ◌≤◌, ◌<◌, Ordering}
use native.Mathlib.Omega.{arith}
use lib.Dec.{compare_is_eq}
use Rattle.std.specs.Prelude.{Result, Ok, Err}
use Rattle.table.specs.declared.Row.{Row}
use Rattle.table.specs.Places.{tabulate, PartitionPoint}
use Rattle.table.specs.Store.{row}
use Rattle.table.proofs.PlaceLaws.{by-eq}
use Rattle.table.proofs.BinarySearch.{Falling}
use Rattle.ordmap.specs.Keyed.{Above, Sorted}
use Rattle.ordmap.proofs.Orderings.{is_eq}
use Rattle.ordmap.proofs.Results.{impossible}
use Rattle.model.specs.Order.{is_less}
use Rattle.model.specs.Bytes.{compare_bytes}
use Rattle.model.specs.Report.{Item, item_key, compare_items}
use Rattle.model.proofs.KeyOrder.{bytes-order}
use Rattle.table_item.specs.Items.{item_of}
use Rattle.table_item.specs.SortedItems.{item_from, SortedItems, place, next, FoundPlace}

-- ---- a sorted list, place by place

module _ {E K : Type 0} (key : E → K) (cmp : K → K → Ordering) where
  above_at : (k : K) (f : ℕ → E) (n : ℕ) → Above key cmp k (tabulate f n) → (j : ℕ) → j < n → cmp k (key (f j)) ≡ Ordering.lt
  unfolding tabulate
  above_at k f zero a j h = absurd (omega arith)
  above_at k f (suc n) a zero h = a.0
  above_at k f (suc n) a (suc j) h = above_at k (λ i. f (suc i)) n a.1 j (omega arith)

  pub sorted_at : (f : ℕ → E) (n : ℕ) → Sorted key cmp (tabulate f n) → (i j : ℕ) → i < j → j < n → cmp (key (f i)) (key (f j)) ≡ Ordering.lt
  unfolding tabulate
  sorted_at f zero s i j h l = absurd (omega arith)
  sorted_at f (suc n) s i zero h l = absurd (omega arith)
  sorted_at f (suc n) s zero (suc j) h l = above_at (key (f 0)) (λ i. f (suc i)) n s.0 j (omega arith)
  sorted_at f (suc n) s (suc i) (suc j) h l = sorted_at (λ i. f (suc i)) n s.1 i j (omega arith) (omega arith)

  above_fewer : (k : K) (f : ℕ → E) (m n : ℕ) → m ≤ n → Above key cmp k (tabulate f n) → Above key cmp k (tabulate f m)
  unfolding tabulate
  above_fewer k f zero n h a = tt
  above_fewer k f (suc m) zero h a = absurd (omega arith)
  above_fewer k f (suc m) (suc n) h a = (a.0, above_fewer k (λ i. f (suc i)) m n (omega arith) a.1)

  sorted_fewer : (f : ℕ → E) (m n : ℕ) → m ≤ n → Sorted key cmp (tabulate f n) → Sorted key cmp (tabulate f m)
  unfolding tabulate
  sorted_fewer f zero n h s = tt
  sorted_fewer f (suc m) zero h s = absurd (omega arith)
  sorted_fewer f (suc m) (suc n) h s = (above_fewer (key (f 0)) (λ i. f (suc i)) m n (omega arith) s.0, sorted_fewer (λ i. f (suc i)) m n (omega arith) s.1)

pub open_fewer : {text ws : List ℕ} {index used at n : ℕ} (m : ℕ) → m ≤ n → SortedItems text ws index used at n → SortedItems text ws index used at m
open_fewer {text} {ws} {index} {used} {at} {n} m h ο = record {
  store = ο.store;
  room = omega (arith, ο.room);
  inner = λ k l. ο.inner k (omega arith);
  sorted = sorted_fewer item_key compare_bytes (item_from text ws index at) m n h ο.sorted;
}

-- ---- which items come before a key

-- what a test of a comparison says
pub is_lt : (o : Ordering) → is_less o ≡ true → o ≡ Ordering.lt
is_lt Ordering.lt h = refl
is_lt Ordering.eq h = cc
is_lt Ordering.gt h = cc

module _ (f : ℕ → Item) (e : Item) where
  -- the item at a place comes before e
  abbrev pub Before : ℕ → Bool
  Before k = is_less (compare_items (f k) e)

  -- where an item comes before e, so do all before it
  pub before_falls : (n : ℕ) → Sorted item_key compare_bytes (tabulate f n) → Falling Before n
  unfolding compare_items
  before_falls n s k j l h t =
      by-eq k j
      (λ q. rw q t)
      (λ q. ap is_less (bytes-order.trans (sorted_at item_key compare_bytes f n s k j (omega arith) h) (is_lt _ t)))

  greater : (k : ℕ) → Before k ≡ true → compare_items e (f k) ≡ Ordering.gt
  unfolding compare_items
  greater k t = bytes-order.greater (is_lt _ t)

  less : (k : ℕ) → Before k ≡ false → compare_is_eq (compare_items e (f k)) ≡ false → compare_items e (f k) ≡ Ordering.lt
  unfolding compare_items
  less k b n = go (compare_items e (f k)) refl n
    where
      go : (o : Ordering) → compare_items e (f k) ≡ o → compare_is_eq o ≡ false → compare_items e (f k) ≡ Ordering.lt
      go Ordering.lt q n = q
      go Ordering.eq q n = cc
      go Ordering.gt q n = let z : true ≡ false = sym (ap is_less (bytes-order.less q)) ∙ b in impossible cc

-- ---- the place

module _ (e : Item) where
  pub place-insert : (f : ℕ → Item) (n i : ℕ) → i ≤ n → ((k : ℕ) → k < i → compare_items e (f k) ≡ Ordering.gt) → (i < n → compare_items e (f i) ≡ Ordering.lt)
      → place e (tabulate f n) ≡ Err i
  unfolding tabulate place
  place-insert f zero zero h below here = refl
  place-insert f zero (suc i) h below here = absurd (omega arith)
  place-insert f (suc n) zero h below here = rw (here (omega arith))
  place-insert f (suc n) (suc i) h below here =
      rw (below 0 (omega arith)) (ap next (place-insert (λ k. f (suc k)) n i (omega arith) (λ k l. below (suc k) (omega arith)) (λ l. here (omega arith))))

  pub place_at : (f : ℕ → Item) (n i : ℕ) → i < n → ((k : ℕ) → k < i → compare_items e (f k) ≡ Ordering.gt) → compare_items e (f i) ≡ Ordering.eq
      → place e (tabulate f n) ≡ Ok i
  unfolding tabulate place
  place_at f zero i h below here = absurd (omega arith)
  place_at f (suc n) zero h below here = rw here
  place_at f (suc n) (suc i) h below here =
      rw (below 0 (omega arith)) (ap next (place_at (λ k. f (suc k)) n i (omega arith) (λ k l. below (suc k) (omega arith)) here))

-- an item as it was read and compared
pub before_as : (text ws : List ℕ) (index at k : ℕ) (e : Item) {x : Row} {r b : Bool} → x ≡ row ws index (at + k) → r ≡ is_less (compare_items (item_of text x) e) → r ≡ b
    → Before (item_from text ws index at) e k ≡ b
before_as text ws index at k e f g t = rw f at (sym g ∙ t)

pub equal_as : (text ws : List ℕ) (index at k : ℕ) (e : Item) {x : Row} {r b : Bool} → x ≡ row ws index (at + k) → r ≡ compare_is_eq (compare_items e (item_of text x)) → r ≡ b
    → compare_is_eq (compare_items e (item_from text ws index at k)) ≡ b
equal_as text ws index at k e f g t = rw f at (sym g ∙ t)

-- ---- the answers of the search

-- the answer as a match has it
pub placed_as : {text ws : List ℕ} {index at n : ℕ} {e : Item} {r q : Result ℕ ℕ} → r ≡ q → FoundPlace text ws index at n e r → FoundPlace text ws index at n e q
placed_as z π = rw z at π

module _ {text ws : List ℕ} {index at n : ℕ} {e : Item} where
  pub found_none : n ≡ 0 → FoundPlace text ws index at n e (Err 0)
  found_none z = record {
    is = sym (place-insert e (item_from text ws index at) n 0 (omega arith) (λ k l. absurd (omega arith)) (λ l. absurd (omega arith)));
    within = omega arith;
  }

  -- e comes after the last
  pub found-last : {used : ℕ} → SortedItems text ws index used at n → n ≢ 0 → Before (item_from text ws index at) e (n - 1) ≡ true → FoundPlace text ws index at n e (Err n)
  found-last ο z t = record {
    is = sym (place-insert e (item_from text ws index at) n n (omega arith) (λ k l. greater (item_from text ws index at) e k (before_falls (item_from text ws index at) e n ο.sorted k (n - 1) (omega arith) (omega arith) t)) (λ l. absurd (omega arith)));
    within = omega arith;
  }

  -- e is the i-th
  pub found_here : {used : ℕ} (i : ℕ) → SortedItems text ws index used at n → i < n → compare_is_eq (compare_items e (item_from text ws index at i)) ≡ true → FoundPlace text ws index at n e (Ok i)
  unfolding compare_items
  found_here i ο l q = record {
    is = sym (place_at e (item_from text ws index at) n i l
        (λ k h. greater (item_from text ws index at) e k
        (ap (λ (b : List ℕ). is_less (compare_bytes (item_key (item_from text ws index at k)) b)) (bytes-order.equal (is_eq _ q)) ∙ ap is_less (sorted_at item_key compare_bytes (item_from text ws index at) n ο.sorted k i h l))) (is_eq _ q));
    within = l;
  }

  module _ {i : ℕ} (z : n ≢ 0) (κ : PartitionPoint (Before (item_from text ws index at) e) (n - 1) i) where
    pub found_at : compare_is_eq (compare_items e (item_from text ws index at i)) ≡ true → FoundPlace text ws index at n e (Ok i)
    found_at q = record {
      is = sym (place_at e (item_from text ws index at) n i (omega (arith, κ.most)) (λ k l. greater (item_from text ws index at) e k (κ.past k l)) (is_eq _ q));
      within = omega (arith, κ.most);
    }

    -- e does not come after the last
    pub found-gap : Before (item_from text ws index at) e (n - 1) ≡ false → compare_is_eq (compare_items e (item_from text ws index at i)) ≡ false → FoundPlace text ws index at n e (Err i)
    found-gap b q = record {
      is = sym (place-insert e (item_from text ws index at) n i (omega (arith, κ.most)) (λ k l. greater (item_from text ws index at) e k (κ.past k l)) (λ l. less (item_from text ws index at) e i here q));
      within = omega (arith, κ.most);
    }
      where
        here : Before (item_from text ws index at) e i ≡ false
        here = by-eq i (n - 1) (λ x. rw x b) (λ x. κ.rest i (omega arith) (omega (arith, κ.most)))
