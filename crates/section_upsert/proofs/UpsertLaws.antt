-- A row upserted into main or delta is upserted into the whole: one law for each exit. Assumes nothing.
use mathlib.Core.Path.{◌≡◌, refl, sym, ap, ap₂, ◌∙◌}
use mathlib.Core.Bool.{Bool}
use mathlib.Core.List.{List}
use Prim.Native.Nat.{Ordering}
use Prim.Native.Nat.{ℕ, suc, ◌+◌, ◌-◌, ◌≤◌, ◌<◌}
use native.Mathlib.Omega.{arith}
use borrow.Author.Tests.{le-leb, lt-leb}
use lib.ListN.{length, set}
use Rattle.table.specs.declared.Row.{Row}
use Rattle.table.specs.Places.{tabulate, Unchanged, Updated}
use Rattle.table.specs.Rows.{word}
use Rattle.table.specs.Store.{row, Store}
use Rattle.table.proofs.PlaceLaws.{by-eq, by-lt}
use Rattle.table.proofs.TabulateLaws.{length-tabulate}
use Rattle.table_interleave.specs.Interleaved.{Interleaved}
use Rattle.ordmap.specs.Result.{accepted, bind, map_accepted}
use Rattle.ordmap.specs.Keyed.{add}
use Rattle.ordmap.proofs.Results.{impossible}
use Rattle.model.specs.declared.Fault.TheVariants.{CallOverflow, TooManyEntries}
use Rattle.model.specs.Bytes.{compare_bytes}
use Rattle.model.specs.Answer.{Answer, refuse}
use Rattle.model.specs.Report.{Item, item_key, compare_items, within}
use Rattle.std.specs.Prelude.{Ok, Err, Some, None}
use Rattle.table_item.specs.Items.{item_of, ItemRow}
use Rattle.table_item.specs.SortedItems.{item_from, items_at, SortedItems, place}
use Rattle.table_item.specs.Combining.{combine_of}
use Rattle.section_upsert.specs.MainDelta.{insert, merge_items, all_at, MainDelta, InsertedAt, DeltaInserted}
use Rattle.section_upsert.specs.Upserted.{RowCombined, parts, Upserted}
use Rattle.section_upsert.proofs.ItemLaws.{same_key, key-same, Absent, union_absent, length-insert, length_union, add_absent, add-main, add-delta}
use Rattle.section_upsert.proofs.PlaceLaws.{between, between_absent, placed_key, place-keys, absent_tabulate}
use Rattle.section_upsert.proofs.MergeLaws.{parts_between, parts-apart, main_now}
use Rattle.section_upsert.proofs.RangeLaws.{keyed, same-items, same_open, run_at, replaced-added, replaced-keys, replaced_open, inserted_added, inserted_open}

-- ---- counts

module _ {A : Type 0} where
  pub within-fits : (limit n : ℕ) (a : A) → n ≤ limit → within limit n a ≡ accepted a
  unfolding within
  within-fits limit n a h = rw (le-leb n limit h)

  pub within-past : (limit n : ℕ) (a : A) → limit < n → within limit n a ≡ refuse TooManyEntries
  unfolding within
  within-past limit n a h = rw (lt-leb n limit h)

pub parts-length : {text ws : List ℕ} {index used spare at n p : ℕ} → MainDelta text ws index used spare at n p → length (all_at text ws index at n p) ≡ n + p
parts-length {text} {ws} {index} {used} {spare} {at} {n} {p} π =
    length_union (items_at text ws index at n) (items_at text ws index (at + n) p) (parts-apart π) π.delta.sorted
    ∙ ap₂ ◌+◌ (length-tabulate (item_from text ws index at) n) (length-tabulate (item_from text ws index (at + n)) p)

-- ---- the delta is empty

pub none-delta : (text ws : List ℕ) (index at n : ℕ) {p : ℕ} → p ≡ 0 → all_at text ws index at n p ≡ items_at text ws index at n
unfolding merge_items tabulate
none-delta text ws index at n z = rw z

pub parted_none : {text ws : List ℕ} {index used spare at n : ℕ} → SortedItems text ws index used at n → MainDelta text ws index used spare at n 0
unfolding tabulate
parted_none ο = record {
  main = ο;
  delta = record { store = ο.store; room = omega (arith, ο.room); inner = λ k l. absurd (omega arith); sorted = tt };
  positions = λ j l. absurd (omega arith);
}

-- ---- what `upsert` owes

module _ (text ws : List ℕ) (index used spare at n p : ℕ) (r : Row) (adds : Bool) (π : MainDelta text ws index used spare at n p) where
  abbrev e : Item
  e = item_of text r

  abbrev f : ℕ → Item
  f = item_from text ws index at

  abbrev h : ℕ → Item
  h = item_from text ws index (at + n)

  abbrev main : List Item
  main = tabulate f n

  abbrev delta : List Item
  delta = tabulate h p

  abbrev whole : List Item
  whole = merge_items main delta

  abbrev adding : List Item → Answer (List Item)
  adding = add item_key compare_bytes (combine_of adds) e

  abbrev counted : Answer (List Item) → Answer (List Item)
  counted answer = bind answer (λ items. within used (at + length items) items)

  upserted : (ws' : List ℕ) (n' p' : ℕ) → adding whole ≡ accepted (all_at text ws' index at n' p') → MainDelta text ws' index used spare at n' p'
      → Unchanged (row ws index) (row ws' index) 0 at → Unchanged (row ws index) (row ws' index) (at + n + p + 1) used
      → Upserted text ws ws' index used spare at n p r adds (parts n' p')
  upserted ws' n' p' q π' s b = record {
    items = sym (ap counted q ∙ within-fits used (at + length (all_at text ws' index at n' p')) (all_at text ws' index at n' p') (omega (arith, parts-length π', π'.delta.room)));
    still = π';
    others = s;
    behind = b;
  }

  -- no row is free
  pub upserted_full : (ws' : List ℕ) → Unchanged (row ws index) (row ws' index) 0 used → Absent (item_of text r) (items_at text ws index at n)
      → Absent (item_of text r) (items_at text ws index (at + n) p) → used ≤ at + n + p → Upserted text ws ws' index used spare at n p r adds (Err TooManyEntries)
  upserted_full ws' s a b l =
      let c : Absent e whole = union_absent e main delta a b in
      record {
        items = sym (ap counted (add_absent (combine_of adds) e whole c) ∙ within-past used (at + length (insert e whole)) (insert e whole) (omega (arith, length-insert e whole c, parts-length π)));
        still = tt;
        others = λ k x y. s k x (omega (arith, π.main.room));
        behind = λ k x y. s k (omega arith) y;
      }

  -- ---- the key is at position i of main

  module _ (i : ℕ) (i<n : i < n) (q : Ok i ≡ place e main) where
    not_delta : Absent e delta
    not_delta = absent_tabulate e h p (λ j l x. go j l (key-same (h j) (f i) (sym (same_key e (h j) x) ∙ same_key e (f i) (placed_key e f n i (sym q)))))
      where
        go : (j : ℕ) → j < p → compare_items (h j) (f i) ≡ Ordering.eq → ⊥
        go j l x =
            by-lt i (word ws (spare + j))
            (λ m. let z : Ordering.gt ≡ Ordering.eq = sym ((parts_between π j l).below i m) ∙ x in impossible cc)
            (λ m. let z : Ordering.lt ≡ Ordering.eq = sym ((parts_between π j l).above i m i<n) ∙ x in impossible cc)

    pub upserted_main : {ws' : List ℕ} {both : Row} → ItemRow text r → RowCombined ws ws' index used (at + i) r adds (Some both) → index + used ≤ spare
        → Upserted text ws ws' index used spare at n p r adds (parts n p)
    upserted_main {ws'} {both} inner χ b =
        upserted ws' n p
        (add-main (combine_of adds) (keyed adds) e main delta not_delta
        ∙ ap (map_accepted (λ l. merge_items l delta)) (replaced-added text ws index used at n r adds π.main i i<n q ws' both (χ.item text) χ.rows)
        ∙ ap (λ (l : List Item). accepted (merge_items (items_at text ws' index at n) l)) (sym (same-items text ws ws' index (at + n) p same)))
        (record {
          main = replaced_open text ws index used at n r adds π.main i i<n q ws' both (χ.item text) χ.rows χ.store (χ.inner text (π.main.inner i i<n) inner);
          delta = same_open text ws ws' index (at + n) p same used π.delta χ.store π.delta.room;
          positions = λ j l. place-keys (h j) (item_from text ws' index (at + n) j) (ap item_key (ap (item_of text) (same (at + n + j) (omega arith) (omega arith)))) f (item_from text ws' index at) n
              (replaced-keys text ws index used at n r adds π.main i i<n q ws' both (χ.item text) χ.rows)
              ∙ π.positions j l ∙ ap Err (sym (χ.spare.above (spare + j) (omega arith)));
        })
        (λ k x y. χ.rows.others k (omega (arith, π.main.room)) (omega arith))
        (λ k x y. χ.rows.others k y (omega arith))
      where
        same : Unchanged (row ws index) (row ws' index) (at + n) (at + n + p)
        same k x y = χ.rows.others k (omega (arith, π.delta.room)) (omega arith)

    pub overflow_main : {ws' : List ℕ} → RowCombined ws ws' index used (at + i) r adds None → Upserted text ws ws' index used spare at n p r adds (Err CallOverflow)
    overflow_main χ = record {
      items = sym (ap counted (add-main (combine_of adds) (keyed adds) e main delta not_delta
          ∙ ap (map_accepted (λ l. merge_items l delta)) (run_at text ws index used at n r adds π.main i i<n q ∙ ap (λ (a : Answer Item). map_accepted (λ y. set main i y) a) (sym (χ.item text)))));
      still = tt;
      others = λ k x y. χ.rows k x (omega (arith, π.main.room));
      behind = λ k x y. χ.rows k (omega arith) y;
    }

  -- ---- the key is not in main; its insert position there is i

  module _ (i : ℕ) (a : Err i ≡ place e main) where
    pub not_main : Absent (item_of text r) (items_at text ws index at n)
    not_main = between_absent (between e f n i π.main.sorted (sym a))

    to_delta : adding whole ≡ map_accepted (merge_items main) (adding delta)
    to_delta = add-delta main (combine_of adds) (keyed adds) e delta not_main π.delta.sorted

    -- the key is at position k of the delta
    module _ (k : ℕ) (k<p : k < p) (q : Ok k ≡ place e delta) where
      pub upserted_delta : {ws' : List ℕ} {both : Row} → ItemRow text r → RowCombined ws ws' index used (at + n + k) r adds (Some both) → index + used ≤ spare
          → Upserted text ws ws' index used spare at n p r adds (parts n p)
      upserted_delta {ws'} {both} inner χ b =
          upserted ws' n p
          (to_delta ∙ ap (map_accepted (merge_items main)) (replaced-added text ws index used (at + n) p r adds π.delta k k<p q ws' both (χ.item text) χ.rows)
          ∙ ap (λ (l : List Item). accepted (merge_items l (items_at text ws' index (at + n) p))) (sym (same-items text ws ws' index at n same)))
          (record {
            main = same_open text ws ws' index at n same used π.main χ.store π.main.room;
            delta = replaced_open text ws index used (at + n) p r adds π.delta k k<p q ws' both (χ.item text) χ.rows χ.store (χ.inner text (π.delta.inner k k<p) inner);
            positions = λ j l. place-keys (h j) (item_from text ws' index (at + n) j) (replaced-keys text ws index used (at + n) p r adds π.delta k k<p q ws' both (χ.item text) χ.rows j l) f (item_from text ws' index at) n
                (λ o x. ap item_key (ap (item_of text) (same (at + o) (omega arith) (omega arith))))
                ∙ π.positions j l ∙ ap Err (sym (χ.spare.above (spare + j) (omega arith)));
          })
          (λ o x y. χ.rows.others o (omega (arith, π.main.room)) (omega arith))
          (λ o x y. χ.rows.others o y (omega arith))
        where
          same : Unchanged (row ws index) (row ws' index) at (at + n)
          same o x y = χ.rows.others o (omega (arith, π.main.room)) (omega arith)

      pub overflow_delta : {ws' : List ℕ} → RowCombined ws ws' index used (at + n + k) r adds None → Upserted text ws ws' index used spare at n p r adds (Err CallOverflow)
      overflow_delta χ = record {
        items = sym (ap counted (to_delta ∙ ap (map_accepted (merge_items main)) (run_at text ws index used (at + n) p r adds π.delta k k<p q ∙ ap (λ (x : Answer Item). map_accepted (λ y. set delta k y) x) (sym (χ.item text)))));
        still = tt;
        others = λ o x y. χ.rows o x (omega (arith, π.main.room));
        behind = λ o x y. χ.rows o (omega arith) y;
      }

    -- its insert position in the delta is k
    module _ (k : ℕ) (k≤p : k ≤ p) (q : Err k ≡ place e delta) where
      pub delta_full : used ≤ at + n + p → Upserted text ws ws index used spare at n p r adds (Err TooManyEntries)
      delta_full l = upserted_full ws (λ o x y. refl) not_main (between_absent (between e h p k π.delta.sorted (sym q))) l

      pub upserted_inserted : (ws' : List ℕ) → at + n + p < used → ItemRow text r → DeltaInserted ws ws' index used spare (at + n) p k i r
          → Upserted text ws ws' index used spare at n p r adds (parts n (p + 1))
      upserted_inserted ws' l ι ν =
          upserted ws' n (p + 1)
          (to_delta ∙ ap (map_accepted (merge_items main)) (inserted_added text ws index used (at + n) p r adds π.delta k k≤p q ws' ν.rows)
          ∙ ap (λ (x : List Item). accepted (merge_items x (items_at text ws' index (at + n) (p + 1)))) (sym items))
          (record {
            main = same_open text ws ws' index at n same used π.main ν.store π.main.room;
            delta = inserted_open text ws index used (at + n) p r adds π.delta k k≤p q ws' ν.rows ν.store l ι;
            positions = λ j m. by-lt j k
                (λ x. noted j (h j) (word ws (spare + j)) (ap (item_of text) (ν.rows.below j x)) (ν.places.below j x) (π.positions j (omega arith)))
                (λ x. by-eq j k
                (λ y. noted j e i (ap (item_from text ws' index (at + n)) y ∙ ap (item_of text) ν.rows.here) (ap (λ (o : ℕ). word ws' (spare + o)) y ∙ ν.places.here) (sym a))
                (λ y.
                let z : j ≡ suc (j - 1) = omega arith in
                noted j (h (j - 1)) (word ws (spare + (j - 1))) (ap (item_from text ws' index (at + n)) z ∙ ap (item_of text) (ν.rows.up (j - 1) (omega arith) (omega arith)))
                (ap (λ (o : ℕ). word ws' (spare + o)) z ∙ ν.places.up (j - 1) (omega arith) (omega arith)) (π.positions (j - 1) (omega arith))));
          })
          (λ o x y. ν.others o x (omega arith))
          (λ o x y. ν.behind o (omega arith) y)
        where
          same : Unchanged (row ws index) (row ws' index) at (at + n)
          same o x y = ν.others o (omega arith) y

          items : items_at text ws' index at n ≡ main
          items = same-items text ws ws' index at n same

          -- an item and its place, as they were
          noted : (j : ℕ) (x : Item) (w : ℕ) → item_from text ws' index (at + n) j ≡ x → word ws' (spare + j) ≡ w → place x main ≡ Err w
              → place (item_from text ws' index (at + n) j) (items_at text ws' index at n) ≡ Err (word ws' (spare + j))
          noted j x w u v t = ap₂ place u items ∙ t ∙ ap Err (sym v)

  -- ---- the key is greater than all, and the delta is empty

  pub last_full : p ≡ 0 → Err n ≡ place (item_of text r) (items_at text ws index at n) → used ≤ at + n → Upserted text ws ws index used spare at n p r adds (Err TooManyEntries)
  last_full z a l = upserted_full ws (λ o x y. refl) (not_main n a) (absent_tabulate e h p (λ j m. absurd (omega arith))) (omega arith)

  pub upserted_last : (ws' : List ℕ) → p ≡ 0 → Err n ≡ place (item_of text r) (items_at text ws index at n) → at + n < used → ItemRow text r
      → Store ws' index used → Updated (row ws index) (row ws' index) used (at + n) r → Upserted text ws ws' index used spare at n p r adds (parts (n + 1) 0)
  upserted_last ws' z a l ι σ ρ =
      upserted ws' (n + 1) 0
      (ap adding (none-delta text ws index at n z) ∙ inserted_added text ws index used at n r adds π.main n (omega arith) a ws' last
      ∙ ap accepted (sym (none-delta text ws' index at (n + 1) refl)))
      (parted_none (inserted_open text ws index used at n r adds π.main n (omega arith) a ws' last σ l ι))
      (λ o x y. ρ.others o (omega arith) (omega arith))
      (λ o x y. ρ.others o y (omega arith))
    where
      last : InsertedAt (λ k. row ws index (at + k)) (λ k. row ws' index (at + k)) n n r
      last = record { below = λ k m. ρ.others (at + k) (omega arith) (omega arith); here = ρ.there; up = λ k m o. absurd (omega arith) }

-- ---- the delta is merged into main

-- what was upserted, after the merge
pub upserted_interleaved : {text ws ws₁ ws₂ : List ℕ} {index used spare at n p : ℕ} {r : Row} {adds : Bool} (m k : ℕ) → m + k ≤ n + p + 1
    → Upserted text ws ws₁ index used spare at n p r adds (parts m k) → Store ws₂ index used
    → Interleaved (row ws₁ index) (row ws₂ index) (λ j. word ws₁ (spare + j)) used at m k → Upserted text ws ws₂ index used spare at n p r adds (parts (m + k) 0)
upserted_interleaved {text} {ws} {ws₁} {ws₂} {index} {used} {spare} {at} m k l ε σ ω =
    let ς = main_now ε.still σ ω in
    record {
      items = ap accepted (none-delta text ws₂ index at (m + k) refl ∙ ς.items) ∙ ε.items;
      still = parted_none ς.still;
      others = λ o x y. ς.others o x y ∙ ε.others o x y;
      behind = λ o x y. ω.above o (omega arith) y ∙ ε.behind o x y;
    }
