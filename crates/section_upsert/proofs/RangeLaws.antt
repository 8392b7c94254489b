-- Sorted items of which one is replaced, or into which one is inserted, or which are unchanged. Assumes nothing.
use mathlib.Core.Path.{◌≡◌, refl, sym, ap, ◌∙◌}
use mathlib.Core.Logic.{◌≢◌}
use mathlib.Core.Bool.{Bool, true, false}
use mathlib.Core.List.{List, [], ◌∷◌, ◌++◌}
use Prim.Native.Nat.{ℕ, suc, ◌+◌, ◌-◌, ◌≤◌, ◌<◌, Ordering}
use native.Mathlib.Omega.{arith}
use lib.ListN.{get_or, set, take, drop}
use Rattle.table.specs.declared.Row.{Row}
use Rattle.table.specs.Places.{tabulate, Unchanged, Updated}
use Rattle.table.specs.Store.{row, Store}
use Rattle.table.proofs.PlaceLaws.{by-eq, by-lt}
use Rattle.table.proofs.TabulateLaws.{tabulate_cong, tabulate-insert, tabulate-set, get_d_tabulate}
use Rattle.ordmap.specs.Result.{accepted, refused, map_accepted}
use Rattle.ordmap.specs.Keyed.{Sorted, Keyed, add}
use Rattle.ordmap.proofs.Adding.{add-sorted}
use Rattle.model.specs.Bytes.{compare_bytes}
use Rattle.model.specs.Answer.{Answer}
use Rattle.model.specs.Report.{Item, item_key, compare_items}
use Rattle.model.proofs.KeyOrder.{bytes-order}
use Rattle.model.proofs.Read.{replace_keyed, add_calls_keyed}
use Rattle.std.specs.Prelude.{Result, Ok, Err}
use Rattle.table_item.specs.Items.{item_of, ItemRow}
use Rattle.table_item.specs.SortedItems.{item_from, items_at, SortedItems, place, next}
use Rattle.table_item.specs.Combining.{combine_of}
use Rattle.section_upsert.specs.MainDelta.{InsertedAt}
use Rattle.section_upsert.proofs.ItemLaws.{same_key}
use Rattle.section_upsert.proofs.PlaceLaws.{placed_key}

-- ---- `add` by the place

module _ (combine : Item → Item → Answer Item) (e : Item) where
  abbrev at_place : Result ℕ ℕ → List Item → Answer (List Item)
  at_place (Ok i) l = map_accepted (λ y. set l i y) (combine (get_or l i e) e)
  at_place (Err i) l = accepted (take i l ++ e ∷ drop i l)

  add-place : (l : List Item) → add item_key compare_bytes combine e l ≡ at_place (place e l) l
  unfolding place compare_items
  add-place [] = refl
  add-place (x ∷ xs) = go (compare_items e x) refl (add-place xs)
    where
      later : (i : ℕ) (r : Answer Item) → map_accepted (λ ys. x ∷ ys) (map_accepted (λ y. set xs i y) r) ≡ map_accepted (λ y. x ∷ set xs i y) r
      later i (accepted y) = refl
      later i (refused n) = refl

      past : (p : Result ℕ ℕ) → map_accepted (λ ys. x ∷ ys) (at_place p xs) ≡ at_place (next p) (x ∷ xs)
      past (Ok i) = later i (combine (get_or xs i e) e)
      past (Err i) = refl

      go : (o : Ordering) → compare_items e x ≡ o → add item_key compare_bytes combine e xs ≡ at_place (place e xs) xs
          → add item_key compare_bytes combine e (x ∷ xs) ≡ at_place (place e (x ∷ xs)) (x ∷ xs)
      go Ordering.lt q ih = rw q
      go Ordering.eq q ih = rw q
      go Ordering.gt q ih = rw q (ap (λ (r : Answer (List Item)). map_accepted (λ ys. x ∷ ys) r) ih ∙ past (place e xs))

pub keyed : (adds : Bool) → Keyed item_key compare_bytes (combine_of adds)
keyed true = add_calls_keyed
keyed false = replace_keyed

-- ---- rows that stay

module _ (text ws ws' : List ℕ) (index at n : ℕ) (s : Unchanged (row ws index) (row ws' index) at (at + n)) where
  pub same-items : items_at text ws' index at n ≡ items_at text ws index at n
  same-items = tabulate_cong (item_from text ws' index at) (item_from text ws index at) n (λ k l. ap (item_of text) (s (at + k) (omega arith) (omega arith)))

  pub same_open : {used : ℕ} (used' : ℕ) → SortedItems text ws index used at n → Store ws' index used' → at + n ≤ used' → SortedItems text ws' index used' at n
  same_open used' ο σ l = record {
    store = σ;
    room = l;
    inner = λ k m. rw (s (at + k) (omega arith) (omega arith)) (ο.inner k m);
    sorted = rw same-items ο.sorted;
  }

-- ---- a row put at the position of its key

module _ (text ws : List ℕ) (index used at n : ℕ) (r : Row) (adds : Bool) (ο : SortedItems text ws index used at n) where
  abbrev e : Item
  e = item_of text r

  abbrev f : ℕ → Item
  f = item_from text ws index at

  abbrev run : List Item
  run = tabulate f n

  abbrev adding : List Item → Answer (List Item)
  adding = add item_key compare_bytes (combine_of adds) e

  -- sorted items with one more are sorted
  still-sorted : (l : List Item) → adding run ≡ accepted l → (ws' : List ℕ) (m : ℕ) → items_at text ws' index at m ≡ l → Sorted item_key compare_bytes (items_at text ws' index at m)
  still-sorted l added ws' m rows = rw rows (add-sorted item_key compare_bytes (combine_of adds) bytes-order (keyed adds) e run l ο.sorted added)

  -- the key is at position i
  module _ (i : ℕ) (i<n : i < n) (q : Ok i ≡ place e run) where
    pub run_at : add item_key compare_bytes (combine_of adds) (item_of text r) (items_at text ws index at n)
        ≡ map_accepted (λ y. set (items_at text ws index at n) i y) (combine_of adds (item_from text ws index at i) (item_of text r))
    run_at =
        add-place (combine_of adds) e run ∙ ap (λ (p : Result ℕ ℕ). at_place (combine_of adds) e p run) (sym q)
        ∙ ap (λ (x : Item). map_accepted (λ y. set run i y) (combine_of adds x e)) (get_d_tabulate f n i e i<n)

    module _ (ws' : List ℕ) (both : Row) (m : accepted (item_of text both) ≡ combine_of adds (f i) e) (π : Updated (row ws index) (row ws' index) used (at + i) both) where
      there : (k : ℕ) → k ≡ i → item_from text ws' index at k ≡ item_of text both
      there k x = ap (item_from text ws' index at) x ∙ ap (item_of text) π.there

      other : (k : ℕ) → k < n → k ≢ i → item_from text ws' index at k ≡ f k
      other k l x = ap (item_of text) (π.others (at + k) (omega (arith, ο.room)) (omega arith))

      rows : items_at text ws' index at n ≡ set run i (item_of text both)
      rows = tabulate-set (item_from text ws' index at) f n i (item_of text both) i<n (there i refl) other

      added : adding run ≡ accepted (set run i (item_of text both))
      added = run_at ∙ ap (λ (a : Answer Item). map_accepted (λ y. set run i y) a) (sym m)

      pub replaced-added : add item_key compare_bytes (combine_of adds) (item_of text r) (items_at text ws index at n) ≡ accepted (items_at text ws' index at n)
      replaced-added = added ∙ ap accepted (sym rows)

      -- the keys stay
      pub replaced-keys : (k : ℕ) → k < n → item_key (item_from text ws' index at k) ≡ item_key (item_from text ws index at k)
      replaced-keys k l =
          by-eq k i
          (λ x. ap item_key (there k x) ∙ (keyed adds).keeps (sym (same_key e (f i) (placed_key e f n i (sym q)))) (sym m) ∙ ap (λ (j : ℕ). item_key (f j)) (sym x))
          (λ x. ap item_key (other k l x))

      pub replaced_open : Store ws' index used → ItemRow text both → SortedItems text ws' index used at n
      replaced_open σ ι = record {
        store = σ;
        room = ο.room;
        inner = λ k l. by-eq k i
            (λ x. rw x (rw π.there ι))
            (λ x. rw (π.others (at + k) (omega (arith, ο.room)) (omega arith)) (ο.inner k l));
        sorted = still-sorted (set run i (item_of text both)) added ws' n rows;
      }

  -- the key is to go to place i
  module _ (i : ℕ) (i≤n : i ≤ n) (q : Err i ≡ place e run) (ws' : List ℕ) (ι : InsertedAt (λ k. row ws index (at + k)) (λ k. row ws' index (at + k)) n i r) where
    longer : items_at text ws' index at (n + 1) ≡ take i run ++ e ∷ drop i run
    longer =
        ap (items_at text ws' index at) (let z : n + 1 ≡ suc n = omega arith in z)
        ∙ tabulate-insert (item_from text ws' index at) f n i e i≤n (λ k l. ap (item_of text) (ι.below k l)) (ap (item_of text) ι.here) (λ k l m. ap (item_of text) (ι.up k l m))

    more : adding run ≡ accepted (take i run ++ e ∷ drop i run)
    more = add-place (combine_of adds) e run ∙ ap (λ (p : Result ℕ ℕ). at_place (combine_of adds) e p run) (sym q)

    pub inserted_added : add item_key compare_bytes (combine_of adds) (item_of text r) (items_at text ws index at n) ≡ accepted (items_at text ws' index at (n + 1))
    inserted_added = more ∙ ap accepted (sym longer)

    pub inserted_open : Store ws' index used → at + n < used → ItemRow text r → SortedItems text ws' index used at (n + 1)
    inserted_open σ l inner = record {
      store = σ;
      room = omega arith;
      inner = λ k m. by-lt k i
          (λ x. rw (ι.below k x) (ο.inner k (omega arith)))
          (λ x. by-eq k i
          (λ y. rw y (rw ι.here inner))
          (λ y. let z : k ≡ suc (k - 1) = omega arith in rw z (rw (ι.up (k - 1) (omega arith) (omega arith)) (ο.inner (k - 1) (omega arith)))));
      sorted = still-sorted (take i run ++ e ∷ drop i run) more ws' (n + 1) longer;
    }
