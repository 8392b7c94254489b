-- The delta is merged into main: the result has the items of both. Assumes nothing.
use mathlib.Core.Path.{◌≡◌, refl, sym, ◌∙◌}
use mathlib.Core.List.{List}
use Prim.Native.Nat.{ℕ, ◌+◌, ◌-◌, ◌≤◌, ◌<◌}
use native.Mathlib.Omega.{arith}
use Rattle.table.specs.declared.Row.{Row}
use Rattle.table.specs.Places.{tabulate}
use Rattle.table.specs.Rows.{word}
use Rattle.table.specs.Store.{row, Store}
use Rattle.table.proofs.PlaceLaws.{by-lt}
use Rattle.table_interleave.specs.Interleaved.{Ascending, Interleaved, InsertPositions}
use Rattle.table_interleave.proofs.InterleavedLaws.{interleaved_each}
use Rattle.table_interleave.proofs.PositionLaws.{positions-rising, interleaved_adds, interleaved_sorted}
use Rattle.ordmap.proofs.Results.{accepted_inj}
use Rattle.model.specs.Bytes.{compare_bytes}
use Rattle.model.specs.Report.{Item, item_key, compare_items}
use Rattle.model.specs.Reading.{replace}
use Rattle.model.proofs.KeyOrder.{bytes-order}
use Rattle.model.proofs.Read.{replace_keyed}
use Rattle.table_item.specs.Items.{item_of, ItemRow}
use Rattle.table_item.specs.SortedItems.{item_from, items_at}
use Rattle.table_item.proofs.SearchLaws.{sorted_at}
use Rattle.section_upsert.specs.MainDelta.{MainDelta, DeltaMerged}
use Rattle.section_upsert.proofs.ItemLaws.{flip_gt, Apart, union_added}
use Rattle.section_upsert.proofs.PlaceLaws.{Between, between, between_absent, apart-tabulate}

module _ {text ws : List ℕ} {index used spare at n p : ℕ} (π : MainDelta text ws index used spare at n p) where
  abbrev main : ℕ → Item
  main = item_from text ws index at

  abbrev delta : ℕ → Item
  delta = item_from text ws index (at + n)

  abbrev positions : ℕ → ℕ
  positions j = word ws (spare + j)

  -- the insert positions of the delta
  pub parts_between : (j : ℕ) → j < p → Between (item_from text ws index (at + n) j) (item_from text ws index at) n (word ws (spare + j))
  parts_between j l = between (delta j) main n (positions j) π.main.sorted (π.positions j l)

  pub parts-apart : Apart (items_at text ws index at n) (items_at text ws index (at + n) p)
  parts-apart = apart-tabulate (tabulate main n) delta p (λ j l. between_absent (parts_between j l))

  insert-positions : InsertPositions item_key compare_bytes main delta positions n p
  unfolding compare_items
  insert-positions = record {
    most = λ j l. (parts_between j l).most;
    past = λ j i l h. flip_gt (delta j) (main i) ((parts_between j l).below i h);
    rest = λ j i l h m. (parts_between j l).above i h m;
  }

  rising : Ascending positions n p
  rising = positions-rising item_key compare_bytes bytes-order (λ i j l h. sorted_at item_key compare_bytes delta p π.delta.sorted i j l h) insert-positions

  -- the places rise, those of all and those of the first few
  pub parts-rising : (m : ℕ) → m ≤ p → Ascending (λ j. word ws (spare + j)) n m
  parts-rising m l = record { most = λ j h. rising.most j (omega arith); rising = λ i j h o. rising.rising i j h (omega arith) }

  pub main_now : {ws' : List ℕ} → Store ws' index used → Interleaved (row ws index) (row ws' index) (λ j. word ws (spare + j)) used at n p
      → DeltaMerged text ws ws' index used at n p
  main_now {ws'} σ ω = record {
    items =
        accepted_inj (sym (interleaved_adds (item_of text) ω (λ i l. refl) (λ j l. refl) (λ k l. refl) item_key compare_bytes replace bytes-order replace_keyed insert-positions rising π.main.sorted π.delta.sorted)
        ∙ union_added (items_at text ws index at n) (items_at text ws index (at + n) p) parts-apart π.delta.sorted);
    still = record {
      store = σ;
      room = omega (arith, π.delta.room);
      inner = λ k l. interleaved_each rising ω (λ (r : Row). ItemRow text r) each (at + k) (omega arith) (omega arith);
      sorted = interleaved_sorted (item_of text) ω (λ i l. refl) (λ j l. refl) (λ k l. refl) item_key compare_bytes replace bytes-order replace_keyed insert-positions rising π.main.sorted π.delta.sorted;
    };
    others = ω.below;
  }
    where
      each : (m : ℕ) → at ≤ m → m < at + n + p → ItemRow text (row ws index m)
      each m l h =
          by-lt m (at + n)
          (λ a. let z : m ≡ at + (m - at) = omega arith in rw z (π.main.inner (m - at) (omega arith)))
          (λ a. let z : m ≡ at + n + (m - (at + n)) = omega arith in rw z (π.delta.inner (m - (at + n)) (omega arith)))
