-- The tail is flushed: its rows are presorted and upserted one after the other. Assumes nothing.
use mathlib.Core.Path.{◌≡◌, refl, sym, ap, ap₂, ◌∙◌}
use mathlib.Core.Logic.{◌≢◌}
use mathlib.Core.Bool.{Bool, true, false}
use mathlib.Core.List.{List, []}
use Prim.Native.Nat.{ℕ, ◌+◌, ◌-◌, ◌≤◌, ◌<◌}
use native.Mathlib.Omega.{arith}
use lib.ListN.{length}
use Rattle.table.specs.declared.Row.{Row}
use Rattle.table.specs.Places.{tabulate, Unchanged}
use Rattle.table.specs.Rows.{UnchangedOutside}
use Rattle.table.specs.Store.{row, Store}
use Rattle.ordmap.specs.Result.{accepted, bind}
use Rattle.ordmap.specs.Keyed.{add}
use Rattle.ordmap.proofs.Results.{accepted_inj, not_accepted}
use Rattle.model.specs.declared.Fault.{Fault}
use Rattle.model.specs.Answer.{Answer}
use Rattle.model.specs.Bytes.{compare_bytes}
use Rattle.model.specs.Report.{Item, item_key, compare_items, within}
use Rattle.table_item.specs.Items.{item_of, ItemRow}
use Rattle.model.specs.Order.{is_less}
use Rattle.std.specs.Prelude.{Result, Err}
use Rattle.table_item.specs.Combining.{Adds, combine_of, is_calls}
use Rattle.table_item.proofs.RowLaws.{calls-function}
use Rattle.table_item.specs.SortedItems.{item_from, items_at, SortedItems, place}
use Rattle.table_item.proofs.SearchLaws.{found_none, found-last}
use Rattle.table.proofs.PlaceLaws.{by-eq}
use Rattle.table.proofs.StoreLaws.{behind-store, behind-rows}
use Rattle.section_presort.specs.SortKeys.{Rows}
use Rattle.section_presort.specs.Presorted.{Presorted}
use Rattle.section_presort.proofs.ComposeLaws.{presorted_items}
use Rattle.section_upsert.specs.declared.PartSizes.{PartSizes}
use Rattle.section_upsert.specs.Upserted.{parts}
use Rattle.section_upsert.specs.MainDelta.{all_at, MainDelta, InsertedAt, DeltaMerged}
use Rattle.section_upsert.proofs.RangeLaws.{inserted_open, same-items, same_open}
use Rattle.section_upsert.specs.Upserted.{seen, Upserted}
use Rattle.section_upsert.proofs.UpsertLaws.{within-fits, parts-length, none-delta, parted_none}
use Rattle.section_tail.specs.declared.OpenSizes.{OpenSizes}
use Rattle.section_tail.specs.Tail.{include, include_all, items_of, with_one_more, RowFits, CallsFit, OpenSection, OneUpserted, AllUpserted, TailFlushed, AllFlushed}
use Rattle.section_tail.proofs.CallLaws.{key-none, key_itself, included_key-calls, line_included}
use Rattle.section_tail.proofs.TailLaws.{include-length, included_last, included_sorted, included_keys}
use Rattle.section_tail.proofs.ItemLaws.{none_included, included_none, held-calls, same-held, all-inner, all_included, fewer_calls, key_split, items-last}

-- ---- one row

-- a row that adds is a function
pub adds-calls : (adds : Bool) (r : Row) → ((text : List ℕ) → adds ≡ is_calls (item_of text r)) → Adds adds r
adds-calls adds r c = go adds (c [])
  where
    go : (a : Bool) → a ≡ is_calls (item_of [] r) → Adds a r
    go true q = calls-function [] r (sym q)
    go false q = tt

module _ {text ws ws' : List ℕ} {index used spare at i : ℕ} (s : OpenSizes) {r : Row} {a : Result PartSizes Fault} (π : MainDelta text ws index used spare at s.main s.delta)
    (l : s.main + s.delta ≤ i) (h : at + i < used) (e : r ≡ row ws index (at + i)) (fits : RowFits text ws index at i s)
    {adds : Bool} (c : (text : List ℕ) → adds ≡ is_calls (item_of text r)) (ε : Upserted text ws ws' index used spare at s.main s.delta r adds a) where
  abbrev whole : List Item
  whole = all_at text ws index at s.main s.delta

  abbrev more : List Item
  more = include (item_from text ws index at i) whole

  more-length : length more ≤ i + 1
  more-length = omega (arith, include-length (item_from text ws index at i) whole, parts-length π)

  -- there is a row for it, and nothing to add
  answer : seen text ws' index at a ≡ accepted more
  answer =
      ε.items
      ∙ ap (λ (x : Answer (List Item)). bind x (λ items. within used (at + length items) items))
      (ap (λ (x : Row). add item_key compare_bytes (combine_of adds) (item_of text x) whole) e
      ∙ line_included adds (item_from text ws index at i) whole (ap (λ (x : Row). is_calls (item_of text x)) (sym e) ∙ sym (c text)) (λ q. fits))
      ∙ within-fits used (at + length more) more (omega (arith, more-length))

  pub never_refused : {C : Type 0} {fault : Fault} → a ≡ Err fault → C
  never_refused q = absurd (not_accepted (ap (seen text ws' index at) (sym q) ∙ answer))

  pub one_more : {n p turns : ℕ} → a ≡ parts n p → OneUpserted text ws ws' index used spare at i s (record { main = n; delta = p; tail = 0; flushes = turns; calls = s.calls })
  one_more {n} {p} {turns} q = go (rw q at ε) (accepted_inj (ap (seen text ws' index at) (sym q) ∙ answer))
    where
      go : Upserted text ws ws' index used spare at s.main s.delta r adds (parts n p) → all_at text ws' index at n p ≡ more
          → OneUpserted text ws ws' index used spare at i s (record { main = n; delta = p; tail = 0; flushes = turns; calls = s.calls })
      go η f = record {
        items = f;
        still = η.still;
        most = omega (arith, parts-length η.still, ap length f, more-length);
        none = refl;
        calls = refl;
        others = η.others;
        behind = λ k x y. η.behind k (omega arith) y;
      }

-- the greatest row changes its position and is main's last
module _ {text ws ws' : List ℕ} {index used spare at i : ℕ} (s : OpenSizes) (π : MainDelta text ws index used spare at s.main s.delta) (l : s.main + s.delta ≤ i)
    (h : at + i < used) (ι : ItemRow text (row ws index (at + i))) {r : Row} (e : r ≡ row ws index (at + i))
    (τ : (s.delta ≡ 0) × (s.main ≢ 0) × (is_less (compare_items (item_from text ws index at (s.main - 1)) (item_of text r)) ≡ true))
    (σ : Store ws' index used) (below : Unchanged (row ws index) (row ws' index) 0 (at + s.main)) (there : row ws' index (at + s.main) ≡ row ws index (at + i))
    (behind : Unchanged (row ws index) (row ws' index) (at + i + 1) used) where
  grown : SortedItems text ws' index used at (s.main + 1)
  grown =
      inserted_open text ws index used at s.main (row ws index (at + i)) false π.main s.main (omega arith) (found-last π.main τ.1 (rw e at τ.2)).is ws'
      (record { below = λ j x. below (at + j) (omega arith) (omega arith); here = there; up = λ j x y. absurd (omega arith) }) σ (omega arith) ι

  same-main : items_at text ws' index at s.main ≡ items_at text ws index at s.main
  same-main = same-items text ws ws' index at s.main (λ k x y. below k (omega arith) y)

  appended : items_at text ws' index at (s.main + 1) ≡ include (item_from text ws index at i) (items_at text ws index at s.main)
  appended =
      sym (included_sorted (items_at text ws' index at (s.main + 1)) grown.sorted)
      ∙ ap (include_all []) (items-last (item_from text ws' index at) s.main)
      ∙ included_last (items_at text ws' index at s.main) (item_from text ws' index at s.main) []
      ∙ ap₂ include (ap (item_of text) there) (ap (include_all []) same-main ∙ included_sorted (items_at text ws index at s.main) π.main.sorted)

  pub one-greater : OneUpserted text ws ws' index used spare at i s (with_one_more s)
  one-greater = record {
    items =
        none-delta text ws' index at (s.main + 1) τ.0 ∙ appended
        ∙ ap (include (item_from text ws index at i)) (sym (none-delta text ws index at s.main τ.0));
    still = rw τ.0 (parted_none grown);
    most = omega arith;
    none = refl;
    calls = refl;
    others = λ k x y. below k x (omega arith);
    behind = behind;
  }

-- ---- all rows

-- the first i rows are upserted; those behind them are unchanged
pub record Upserting (text ws₀ ws : List ℕ) (index used spare at counted : ℕ) (s : OpenSizes) (i : ℕ) : Type 0 where
  pub items : all_at text ws index at s.main s.delta ≡ include_all [] (items_at text ws₀ index at i)
  pub still : MainDelta text ws index used spare at s.main s.delta
  pub most : s.main + s.delta ≤ i
  pub none : s.tail ≡ 0
  pub calls : s.calls ≡ counted
  pub size : length ws ≡ length ws₀
  pub others : Unchanged (row ws₀ index) (row ws index) 0 at
  pub behind : Unchanged (row ws₀ index) (row ws index) (at + i) used

-- sorted items are main already
pub upserting_sorted : {text ws : List ℕ} {index used spare at n turns counted : ℕ} → SortedItems text ws index used at n
    → Upserting text ws ws index used spare at counted (record { main = n; delta = 0; tail = 0; flushes = turns; calls = counted }) n
upserting_sorted {text} {ws} {index} {at = at} {n = n} ο = record {
  items = none-delta text ws index at n refl ∙ sym (included_sorted (items_at text ws index at n) ο.sorted);
  still = parted_none ο;
  most = omega arith;
  none = refl;
  calls = refl;
  size = refl;
  others = λ k x y. refl;
  behind = λ k x y. refl;
}

pub none_open : {text ws : List ℕ} {index used at : ℕ} → Store ws index used → at ≤ used → SortedItems text ws index used at 0
unfolding tabulate
none_open σ l = record { store = σ; room = omega arith; inner = λ k m. absurd (omega arith); sorted = tt }

-- sorted items and one more that is greater than they are
pub open_next : {text ws : List ℕ} {index used at : ℕ} (k : ℕ) → SortedItems text ws index used at k → at + k < used → ItemRow text (row ws index (at + k))
    → (k ≢ 0 → is_less (compare_items (item_from text ws index at (k - 1)) (item_from text ws index at k)) ≡ true) → SortedItems text ws index used at (k + 1)
open_next {text} {ws} {index} {used} {at} k ο l ι b =
    inserted_open text ws index used at k (row ws index (at + k)) false ο k (omega arith) here ws last ο.store l ι
  where
    here : Err k ≡ place (item_from text ws index at k) (items_at text ws index at k)
    here = by-eq k 0 (λ z. rw z (found_none {n = 0} refl).is) (λ z. (found-last ο z (b z)).is)

    last : InsertedAt (λ j. row ws index (at + j)) (λ j. row ws index (at + j)) k k (row ws index (at + k))
    last = record { below = λ j x. refl; here = refl; up = λ j x y. absurd (omega arith) }

module _ {text ws₀ ws : List ℕ} {index used spare at counted i : ℕ} {s : OpenSizes} (ρ : Upserting text ws₀ ws index used spare at counted s i) (l : at + i < used) where
  same_row : row ws index (at + i) ≡ row ws₀ index (at + i)
  same_row = ρ.behind (at + i) (omega arith) l

  -- the calls of one row fit if those of all do
  pub upserting_fits : {m : ℕ} → i < m → CallsFit (items_at text ws₀ index at m) → RowFits text ws index at i s
  upserting_fits {m} h c =
      let e : Item = item_from text ws₀ index at i in
      rw (same_row, ρ.items) (omega (
        arith,
        c (item_key e),
        included_key-calls (item_key e) (items_at text ws₀ index at i) [],
        key_split (item_key e) (item_from text ws₀ index at) i m h,
        key_itself e,
        key-none (item_key e),
      ))

  pub upserting_next : {ws' : List ℕ} {r : OpenSizes} → OneUpserted text ws ws' index used spare at i s r → length ws' ≡ length ws
      → Upserting text ws₀ ws' index used spare at counted r (i + 1)
  upserting_next ο len = record {
    items =
        ο.items
        ∙ ap₂ include (ap (item_of text) same_row) ρ.items
        ∙ sym (ap (include_all []) (items-last (item_from text ws₀ index at) i) ∙ included_last (items_at text ws₀ index at i) (item_from text ws₀ index at i) []);
    still = ο.still;
    most = ο.most;
    none = ο.none;
    calls = ο.calls ∙ ρ.calls;
    size = len ∙ ρ.size;
    others = λ k x y. ο.others k x y ∙ ρ.others k x y;
    behind = λ k x y. ο.behind k (omega arith) y ∙ ρ.behind k (omega arith) y;
  }

-- ---- the tail

pub emptied_already : {text ws : List ℕ} {index used spare at : ℕ} {s : OpenSizes} → OpenSection text ws index used spare at s → s.tail ≡ 0
    → TailFlushed text ws ws index used spare at s s
emptied_already κ z = record { items = refl; still = κ; none = z; others = λ k x y. refl }

module _ {text ws : List ℕ} {index used spare at m : ℕ} {s : OpenSizes} (κ : OpenSection text ws index used spare at s) (q : s.tail ≢ 0) where
  pub tail_inner : m ≤ s.main + s.tail → (k : ℕ) → k < m → ItemRow text (row ws index (at + k))
  tail_inner l k h = all-inner κ (κ.alone q) k (omega arith)

  pub tail_rows : m ≤ s.main + s.tail → Rows text ws index used at m
  tail_rows l = record { store = κ.parts.main.store; room = omega (arith, κ.room); inner = tail_inner l }

  module _ {ws₁ : List ℕ} (ρ : Presorted text ws ws₁ index used at m) where
    pub presorted_inner : m ≤ s.main + s.tail → (k : ℕ) → k < m → ItemRow text (row ws₁ index (at + k))
    presorted_inner l = presorted_items ρ (tail_inner l)

    -- the calls of all rows fit, in whatever order they come
    pub presorted_fits : m ≤ s.main + s.tail → CallsFit (items_at text ws₁ index at m)
    presorted_fits l k = rw (ρ.keys k) (omega (arith, fewer_calls κ (κ.alone q) k l, κ.counted q, κ.calls (κ.counted q)))

    pub emptied : {ws₂ : List ℕ} {r : OpenSizes} → m ≡ s.main + s.tail → AllUpserted text ws₁ ws₂ index used spare at m s.calls r → TailFlushed text ws ws₂ index used spare at s r
    emptied {ws₂} {r} e η = record {
      items = same;
      still = included_none r η.none η.still (λ h. rw (same, η.calls) (held-calls κ (omega (arith, h, η.calls))));
      none = η.none;
      others = λ k x y. η.others k x y ∙ ρ.below k x y;
    }
      where
        same : items_of text ws₂ index at r ≡ items_of text ws index at s
        same =
            none_included text ws₂ index at r η.none
            ∙ η.items
            ∙ included_keys (items_at text ws₁ index at m) (items_at text ws index at m) ρ.keys
            ∙ ap (λ (k : ℕ). include_all [] (items_at text ws index at k)) e
            ∙ all_included κ (κ.alone q)

-- ---- words behind the index change

-- what is written behind the delta's positions leaves the section as it is
pub hinted : {text ws ws₁ ws₂ : List ℕ} {index used spare at from to : ℕ} {s r : OpenSizes} → index + used ≤ spare → spare + r.delta ≤ from → UnchangedOutside ws₁ ws₂ from to → length ws₂ ≡ length ws₁
    → TailFlushed text ws ws₁ index used spare at s r → TailFlushed text ws ws₂ index used spare at s r
hinted {text} {ws} {ws₁} {ws₂} {index} {used} {spare} {at} {s = s} {r = r} l d κ len η = record {
  items = same-held text ws₁ ws₂ index at r (λ k a b. same k (omega (arith, η.still.room))) ∙ η.items;
  still = included_none r η.none
      (record {
        main = same_open text ws₁ ws₂ index at r.main (λ k a b. same k (omega (arith, parts.main.room))) used parts.main σ parts.main.room;
        delta = same_open text ws₁ ws₂ index (at + r.main) r.delta (λ k a b. same k (omega (arith, parts.delta.room))) used parts.delta σ parts.delta.room;
        positions = λ j h. ap₂ place (ap (item_of text) (same (at + r.main + j) (omega (arith, parts.delta.room))))
            (same-items text ws₁ ws₂ index at r.main (λ k a b. same k (omega (arith, parts.main.room))))
            ∙ parts.positions j h
            ∙ ap Err (sym (κ.below (spare + j) (omega arith)));
      })
      (λ h. rw (same-held text ws₁ ws₂ index at r (λ k a b. same k (omega (arith, η.still.room)))) (held-calls η.still h));
  none = η.none;
  others = λ k x y. same k (omega (arith, η.still.room)) ∙ η.others k x y;
}
  where
    parts : MainDelta text ws₁ index used spare at r.main r.delta
    parts = η.still.parts

    σ : Store ws₂ index used
    σ = behind-store parts.main.store κ (omega arith) len

    same : (k : ℕ) → k < used → row ws₂ index k ≡ row ws₁ index k
    same k h = behind-rows parts.main.store κ (omega arith) k (omega arith) h

-- the number of flushes is no part of the section
pub flushes_as : {text ws ws₁ : List ℕ} {index used spare at turns : ℕ} {s r : OpenSizes} → TailFlushed text ws ws₁ index used spare at s r
    → TailFlushed text ws ws₁ index used spare at s (record { main = r.main; delta = r.delta; tail = r.tail; flushes = turns; calls = r.calls })
flushes_as η = let κ = η.still in record {
  items = η.items;
  still = record { parts = κ.parts; alone = κ.alone; counted = κ.counted; room = κ.room; inner = κ.inner; calls = κ.calls };
  none = η.none;
  others = η.others;
}

-- ---- all items

pub in_order : {text ws ws₁ ws₂ : List ℕ} {index used spare at : ℕ} {s r : OpenSizes} → TailFlushed text ws ws₁ index used spare at s r
    → DeltaMerged text ws₁ ws₂ index used at r.main r.delta → AllFlushed text ws ws₂ index used at s (r.main + r.delta)
in_order {text} {ws} {ws₁} {ws₂} {index} {at = at} {r = r} η ς = record {
  items = ς.items ∙ sym (none_included text ws₁ index at r η.none) ∙ η.items;
  still = ς.still;
  others = λ k x y. ς.others k x y ∙ η.others k x y;
}
