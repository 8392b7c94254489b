-- The open section with its tail: how many items it has, and that it is unchanged where its rows are. Assumes nothing.
use mathlib.Core.Path.{◌≡◌, sym, ap, ap₂, ◌∙◌}
use mathlib.Core.Logic.{◌≢◌}
use mathlib.Core.List.{List, [], ◌∷◌, ◌++◌}
use Prim.Native.Nat.{ℕ, ◌+◌, ◌-◌, ◌≤◌, ◌<◌}
use native.Mathlib.Omega.{arith}
use lib.ListN.{length}
use Rattle.table.specs.Places.{tabulate, Unchanged}
use Rattle.table.specs.Rows.{UnchangedOutside}
use Rattle.table.specs.Store.{row, Store}
use Rattle.table.proofs.PlaceLaws.{by-lt}
use Rattle.table.proofs.TabulateLaws.{length-tabulate, tabulate_cong, tabulate-split}
use Rattle.model.specs.Report.{Item}
use Rattle.std.specs.Prelude.{Err}
use Rattle.table_item.specs.Items.{item_of, ItemRow}
use Rattle.table_item.specs.SortedItems.{item_at, item_from, items_at, place}
use Rattle.section_upsert.specs.MainDelta.{merge_items, all_at, MainDelta}
use Rattle.section_upsert.proofs.RangeLaws.{same-items, same_open}
use Rattle.section_upsert.proofs.UpsertLaws.{parts-length, none-delta}
use Rattle.section_tail.specs.declared.OpenSizes.{OpenSizes}
use Rattle.section_tail.specs.Tail.{include_all, rows_of, end_of, items_of, calls_in, calls_at, CallsWithin, OpenSection}
use Rattle.section_tail.proofs.TailLaws.{included_length, included_append, included_sorted}
use Rattle.section_tail.proofs.CallLaws.{calls-append, key_calls, key-calls, key-append, included_calls}

-- ---- counts

-- there is a row for each item
pub held-length : {text ws : List ℕ} {index used spare at : ℕ} {s : OpenSizes} → OpenSection text ws index used spare at s
    → length (items_of text ws index at s) ≤ rows_of s
held-length {text} {ws} {index} {used} {spare} {at} {s} κ =
    omega (
      arith,
      included_length (items_at text ws index (at + s.main + s.delta) s.tail) (all_at text ws index at s.main s.delta),
      parts-length κ.parts,
      length-tabulate (item_from text ws index (at + s.main + s.delta)) s.tail,
    )

-- the last of i + 1 items
pub items-last : (f : ℕ → Item) (i : ℕ) → tabulate f (i + 1) ≡ tabulate f i ++ f i ∷ []
unfolding tabulate
items-last f i = tabulate-split f i 1 ∙ ap (λ (k : ℕ). tabulate f i ++ f k ∷ []) (let z : i + 0 ≡ i = omega arith in z)

-- the calls of one key before the i-th item and in it are among those of m items
pub key_split : (k : List ℕ) (f : ℕ → Item) (i m : ℕ) → i < m → key_calls k (tabulate f i) + key_calls k (f i ∷ []) ≤ key_calls k (tabulate f m)
key_split k f i m h = omega (
  arith,
  ap (λ (n : ℕ). key_calls k (tabulate f n)) (let e : i + 1 + (m - (i + 1)) ≡ m = omega arith in e),
  ap (key_calls k) (tabulate-split f (i + 1) (m - (i + 1))),
  key-append k (tabulate f (i + 1)) (tabulate (λ j. f (i + 1 + j)) (m - (i + 1))),
  ap (key_calls k) (items-last f i),
  key-append k (tabulate f i) (f i ∷ []),
)

-- ---- the tail is empty

pub none_included : (text ws : List ℕ) (index at : ℕ) (s : OpenSizes) → s.tail ≡ 0 → items_of text ws index at s ≡ all_at text ws index at s.main s.delta
unfolding include_all tabulate
none_included text ws index at s z = rw z

-- each row is an item
pub held_exact : {text ws : List ℕ} {index used spare at : ℕ} {s : OpenSizes} → OpenSection text ws index used spare at s → s.tail ≡ 0
    → length (items_of text ws index at s) ≡ rows_of s
held_exact {text} {ws} {index} {used} {spare} {at} {s} κ z = ap length (none_included text ws index at s z) ∙ omega (arith, parts-length κ.parts)

pub included_none : {text ws : List ℕ} {index used spare at : ℕ} (s : OpenSizes) → s.tail ≡ 0 → MainDelta text ws index used spare at s.main s.delta
    → CallsWithin (calls_in (items_of text ws index at s)) s.calls → OpenSection text ws index used spare at s
unfolding calls_in tabulate
included_none {text} {ws} {index} {at = at} s z π c = record {
  parts = π;
  alone = λ h. absurd (h z);
  counted = λ h. absurd (h z);
  room = omega (arith, π.delta.room);
  inner = λ k l. absurd (omega arith);
  calls = λ h. rw z (omega (arith, c h, ap calls_in (none_included text ws index at s z)));
}

-- the items have no more calls than the rows
pub held-calls : {text ws : List ℕ} {index used spare at : ℕ} {s : OpenSizes} → OpenSection text ws index used spare at s → CallsWithin (calls_in (items_of text ws index at s)) s.calls
held-calls {text} {ws} {index} {at = at} {s = s} κ h =
    omega (arith, κ.calls h, included_calls (items_at text ws index (at + s.main + s.delta) s.tail) (all_at text ws index at s.main s.delta))

-- ---- the tail's last row

pub last_inner : {text ws : List ℕ} {index used spare at : ℕ} {s : OpenSizes} (place : ℕ) → OpenSection text ws index used spare at s → s.tail ≢ 0 → place + 1 ≡ end_of at s → ItemRow text (row ws index place)
last_inner {at = at} {s = s} place κ t e = let z : place ≡ at + s.main + s.delta + (s.tail - 1) = omega arith in rw z (κ.inner (s.tail - 1) (omega arith))

-- ---- the delta is empty

module _ {text ws : List ℕ} {index used spare at : ℕ} {s : OpenSizes} (κ : OpenSection text ws index used spare at s) (z : s.delta ≡ 0) where
  -- the rows of main and of the tail are adjacent
  pub all-inner : (k : ℕ) → k < s.main + s.tail → ItemRow text (row ws index (at + k))
  all-inner k l =
      by-lt k s.main
      (λ h. κ.parts.main.inner k h)
      (λ h. let e : at + k ≡ at + s.main + s.delta + (k - s.main) = omega arith in rw e (κ.inner (k - s.main) (omega arith)))

  two_parts : items_at text ws index at (s.main + s.tail) ≡ all_at text ws index at s.main s.delta ++ items_at text ws index (at + s.main + s.delta) s.tail
  two_parts =
      tabulate-split (item_from text ws index at) s.main s.tail
      ∙ ap₂ (λ (a b : List Item). a ++ b) (sym (none-delta text ws index at s.main z))
      (tabulate_cong (λ k. item_from text ws index at (s.main + k)) (item_from text ws index (at + s.main + s.delta)) s.tail
      (λ k l. ap (item_at text ws index) (let e : at + (s.main + k) ≡ at + s.main + s.delta + k = omega arith in e)))

  -- and are the items, included one after the other
  pub all_included : include_all [] (items_at text ws index at (s.main + s.tail)) ≡ items_of text ws index at s
  all_included =
      ap (include_all []) two_parts
      ∙ included_append (all_at text ws index at s.main s.delta) (items_at text ws index (at + s.main + s.delta) s.tail) []
      ∙ ap (λ (l : List Item). include_all l (items_at text ws index (at + s.main + s.delta) s.tail))
      (ap (include_all []) (none-delta text ws index at s.main z) ∙ included_sorted (items_at text ws index at s.main) κ.parts.main.sorted ∙ sym (none-delta text ws index at s.main z))

  -- the calls of one key in the first m rows are among those of all
  pub fewer_calls : {m : ℕ} (k : List ℕ) → m ≤ s.main + s.tail → key_calls k (items_at text ws index at m) ≤ calls_at text ws index at s
  fewer_calls {m} k l = omega (
    arith,
    key-calls k (items_at text ws index at m),
    ap calls_in (tabulate-split (item_from text ws index at) m (s.main + s.tail - m)),
    calls-append (items_at text ws index at m) (tabulate (λ j. item_from text ws index at (m + j)) (s.main + s.tail - m)),
    ap (λ (n : ℕ). calls_in (items_at text ws index at n)) (let e : m + (s.main + s.tail - m) ≡ s.main + s.tail = omega arith in e),
    ap calls_in two_parts,
    calls-append (all_at text ws index at s.main s.delta) (items_at text ws index (at + s.main + s.delta) s.tail),
  )

-- ---- rows that stay

module _ (text ws ws' : List ℕ) (index : ℕ) where
  pub same-all : (at n p : ℕ) → Unchanged (row ws index) (row ws' index) 0 (at + n + p) → all_at text ws' index at n p ≡ all_at text ws index at n p
  same-all at n p s =
      ap₂ merge_items (same-items text ws ws' index at n (λ k a b. s k (omega arith) (omega arith)))
      (same-items text ws ws' index (at + n) p (λ k a b. s k (omega arith) (omega arith)))

  same_parts : {used spare : ℕ} (used' at n p : ℕ) → MainDelta text ws index used spare at n p → Store ws' index used' → at + n + p ≤ used'
      → Unchanged (row ws index) (row ws' index) 0 (at + n + p)
      → UnchangedOutside ws ws' 0 spare → MainDelta text ws' index used' spare at n p
  same_parts {spare = spare} used' at n p π σ l s κ =
      record {
        main = same_open text ws ws' index at n low used' π.main σ (omega arith);
        delta = same_open text ws ws' index (at + n) p high used' π.delta σ l;
        positions = λ j m. ap₂ place (ap (item_of text) (s (at + n + j) (omega arith) (omega arith))) (same-items text ws ws' index at n low)
            ∙ π.positions j m
            ∙ ap Err (sym (κ.above (spare + j) (omega arith)));
      }
    where
      low : Unchanged (row ws index) (row ws' index) at (at + n)
      low k a b = s k (omega arith) (omega arith)

      high : Unchanged (row ws index) (row ws' index) (at + n) (at + n + p)
      high k a b = s k (omega arith) b

  module _ (at : ℕ) (z : OpenSizes) (s : Unchanged (row ws index) (row ws' index) 0 (end_of at z)) where
    pub same-held : items_of text ws' index at z ≡ items_of text ws index at z
    same-held =
        ap₂ include_all (same-all at z.main z.delta (λ k a b. s k a (omega arith)))
        (same-items text ws ws' index (at + z.main + z.delta) z.tail (λ k a b. s k (omega arith) b))

    pub same_included : {used spare : ℕ} (used' : ℕ) → OpenSection text ws index used spare at z → Store ws' index used' → end_of at z ≤ used'
        → UnchangedOutside ws ws' 0 spare → OpenSection text ws' index used' spare at z
    same_included used' κ σ l kept = record {
      parts = same_parts used' at z.main z.delta κ.parts σ (omega arith) (λ k a b. s k a (omega arith)) kept;
      alone = κ.alone;
      counted = κ.counted;
      room = l;
      inner = λ k h. rw (s (at + z.main + z.delta + k) (omega arith) (omega arith)) (κ.inner k h);
      calls = λ h. omega (
        arith,
        κ.calls h,
        ap calls_in (same-all at z.main z.delta (λ k a b. s k a (omega arith))),
        ap calls_in (same-items text ws ws' index (at + z.main + z.delta) z.tail (λ k a b. s k (omega arith) b)),
      );
    }
