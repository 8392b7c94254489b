-- A table whose spare words are written to, and the rows of a table as what can be printed. Assumes nothing.
use Prim.Native.Nat.{ℕ, zero, suc, ◌+◌, ◌*◌, ◌-◌, ◌≤◌, ◌<◌}
use native.Mathlib.Omega.{arith}
use mathlib.Core.Path.{◌≡◌, refl, sym, ap, ◌∙◌}
use mathlib.Core.List.Memᴰ.{head as here}
use mathlib.Core.List.Memᴰ.{tail as there}
use mathlib.Core.List.{List, Memᴰ as Member}
use lib.ListN.{length}
use Rattle.table.specs.Places.{tabulate}
use Rattle.table.specs.Rows.{row_words, word, row_at}
use Rattle.table.specs.Store.{number, row, Store}
use Rattle.table.proofs.TabulateLaws.{tabulate_cong}
use Rattle.table.proofs.WordLaws.{row_cong}
use Rattle.model.specs.Valid.{ItemFits}
use Rattle.table_item.specs.Items.{function_kind, item_of, ItemInBounds}
use Rattle.table_item.specs.SortedItems.{item_from, items_at}
use Rattle.table_section.specs.Sections.{entry_of, entry_at, entries_at}
use Rattle.section.specs.Table.{Table}
use Rattle.print_sort.specs.Sorting.{items_by, InPrintOrder}
use Rattle.print_rows.specs.Emit.{Printable}
use Rattle.print_report.specs.Printing.{entries_from, PrintableTable, UnchangedBefore, IsKindRange, FunctionRows}

tabulate_member : {A : Type 0} (f : ℕ → A) (n k : ℕ) → k < n → Member (f k) (tabulate f n)
unfolding tabulate
tabulate_member f zero k h = absurd (omega arith)
tabulate_member f (suc n) zero h = here refl
tabulate_member f (suc n) (suc k) h = there (tabulate_member (λ i. f (suc i)) n k (omega arith))

-- ---- words that stay

pub spared-none : {ws : List ℕ} {spare : ℕ} → UnchangedBefore ws ws spare
spared-none = record { words = refl; kept = λ j h. refl }

pub spared_both : {ws ws₁ ws₂ : List ℕ} {spare : ℕ} → UnchangedBefore ws ws₁ spare → UnchangedBefore ws₁ ws₂ spare → UnchangedBefore ws ws₂ spare
spared_both σ τ = record { words = τ.words ∙ σ.words; kept = λ j h. τ.kept j h ∙ σ.kept j h }

-- rows and index are before the spare words
module _ {ws ws' : List ℕ} {index used spare : ℕ} (ς : Store ws index used) (b : index + used ≤ spare) (σ : UnchangedBefore ws ws' spare) where
  numbers-kept : (k : ℕ) → k < used → number ws' index k ≡ number ws index k
  numbers-kept k h = σ.kept (index + k) (omega arith)

  row_at-kept : (j : ℕ) → j < used → row_at ws' j ≡ row_at ws j
  row_at-kept j h = row_cong ws' ws (j * row_words) (j * row_words) (λ k l. σ.kept (j * row_words + k) (omega (arith, ς.rows_end)))

  places-kept : (k : ℕ) → k < used → row ws' index k ≡ row ws index k
  unfolding row
  places-kept k h = ap (row_at ws') (numbers-kept k h) ∙ row_at-kept (number ws index k) (ς.numbers.below k h)

  store_kept : Store ws' index used
  store_kept = record {
    rows_end = ς.rows_end;
    index_end = omega (arith, σ.words, ς.index_end);
    numbers = record {
      below = λ k h. rw (numbers-kept k h) (ς.numbers.below k h);
      once = λ k m h l e. ς.numbers.once k m h l (sym (numbers-kept k h) ∙ e ∙ numbers-kept m l);
    };
  }

module _ {text ws ws' : List ℕ} {index used n spare : ℕ} (π : PrintableTable text ws index used n spare) (σ : UnchangedBefore ws ws' spare) where
  pub row_kept : (k : ℕ) → k < n → row ws' index k ≡ row ws index k
  row_kept k h = places-kept π.table.store π.behind σ k (omega (arith, π.table.room))

  pub entries-kept : (lo : ℕ) → entries_from text ws' index n lo ≡ entries_from text ws index n lo
  entries-kept lo =
      tabulate_cong (λ k. entry_at text ws' index (lo + k)) (λ k. entry_at text ws index (lo + k)) (n - lo)
      (λ k h. ap (entry_of text) (row_kept (lo + k) (omega arith)))

  report-kept : entries_at text ws' index n ≡ entries_at text ws index n
  report-kept = tabulate_cong (entry_at text ws' index) (entry_at text ws index) n (λ k h. ap (entry_of text) (row_kept k h))

  pub printable-kept : PrintableTable text ws' index used n spare
  printable-kept = record {
    table = record {
      store = store_kept π.table.store π.behind σ;
      room = π.table.room;
      whole = λ k h. rw (row_kept k h) (π.table.whole k h);
      valid = rw report-kept π.table.valid;
    };
    few = π.few;
    behind = π.behind;
    words = omega (arith, σ.words, π.words);
  }

-- ---- rows that can be printed

-- row j can be printed
record Fine (text ws : List ℕ) (j : ℕ) : Type 0 where
  inside : j * row_words + row_words ≤ length ws
  good : ItemInBounds text (row_at ws j)
  fits : ItemFits (item_of text (row_at ws j))

printable : {text ws : List ℕ} {numbers n : ℕ} → numbers + n ≤ length ws → ((k : ℕ) → k < n → Fine text ws (word ws (numbers + k))) → Printable text ws numbers n
printable h f = record { numbered = record { words = h; inside = λ k l. (f k l).inside }; good = λ k l. (f k l).good; fits = λ k l. (f k l).fits }

fine_in : {text ws : List ℕ} {numbers n : ℕ} → Printable text ws numbers n → (k : ℕ) → k < n → Fine text ws (word ws (numbers + k))
fine_in π k h = record { inside = π.numbered.inside k h; good = π.good k h; fits = π.fits k h }

module _ {text ws : List ℕ} {index used n : ℕ} (τ : Table text ws index used n) where
  fine : (i : ℕ) → i < n → Fine text ws (number ws index i)
  unfolding row
  fine i h = record {
    inside = omega (arith, τ.store.numbers.below i (omega (arith, τ.room)), τ.store.rows_end, τ.store.index_end);
    good = (τ.whole i h).good;
    fits = τ.valid.fits (entry_at text ws index i) (tabulate_member (entry_at text ws index) n i h);
  }

  -- numbers as the index has them
  pub index-printable : (from end : ℕ) → from ≤ end → end ≤ n → Printable text ws (index + from) (end - from)
  index-printable from end l h =
      printable (omega (arith, τ.store.index_end, τ.room))
      (λ k i. let e : index + from + k ≡ index + (from + k) = omega arith in rw e (fine (from + k) (omega arith)))

-- items by the index's numbers are the items at places
pub index-items : (text ws : List ℕ) (index from m : ℕ) → items_by text ws (index + from) m ≡ items_at text ws index from m
unfolding row
index-items text ws index from m =
    tabulate_cong (λ k. item_of text (row_at ws (word ws (index + from + k)))) (λ k. item_of text (row ws index (from + k))) m
    (λ k l. ap (λ (j : ℕ). item_of text (row_at ws (word ws j))) (let e : index + from + k ≡ index + (from + k) = omega arith in e))

-- and so where spare words are written to
pub items_kept : {text ws ws' : List ℕ} {index used n spare : ℕ} → PrintableTable text ws index used n spare → UnchangedBefore ws ws' spare → (from end : ℕ) → end ≤ n
    → items_by text ws' (index + from) (end - from) ≡ items_at text ws index from (end - from)
items_kept {text} {ws} {ws'} {index} π σ from end h =
    index-items text ws' index from (end - from)
    ∙ tabulate_cong (item_from text ws' index from) (item_from text ws index from) (end - from) (λ k l. ap (item_of text) (row_kept π σ (from + k) (omega arith)))

-- ---- functions

-- the functions of a range
pub run-functions : {text ws : List ℕ} {index used n spare from end : ℕ} → PrintableTable text ws index used n spare → IsKindRange ws index n from function_kind end
    → FunctionRows text ws index used from (end - from) spare
run-functions {from = from} {end = end} π φ = record {
  functions = record {
    store = π.table.store;
    room = omega (arith, φ.least, φ.most, π.table.room);
    good = λ k h. (π.table.whole (from + k) (omega (arith, φ.most))).good;
    kind = λ k h. φ.each (from + k) (omega arith) (omega arith);
  };
  rows = index-printable π.table from end φ.least φ.most;
  few = omega (arith, π.few, φ.most);
  behind = π.behind;
  words = omega (arith, π.words, φ.most);
}

module _ {text ws ws' : List ℕ} {index used from n spare : ℕ} (φ : FunctionRows text ws index used from n spare)
    (ρ : InPrintOrder text ws ws' index from n spare) (e : length ws' ≡ length ws) where
  pub order-spared : UnchangedBefore ws ws' spare
  order-spared = record { words = e; kept = ρ.kept }

  -- numbers in printing order
  pub order-printable : Printable text ws' spare n
  order-printable = printable (omega (arith, e, φ.words)) (λ k l. there_fine k (ρ.each k l))
    where
      there_fine : (k : ℕ) → (i : ℕ) × (i < n) × (word ws' (spare + k) ≡ number ws index (from + i)) → Fine text ws' (word ws' (spare + k))
      there_fine k (i, l, q) =
          let j = number ws index (from + i) in
          let same : row_at ws' j ≡ row_at ws j
          = row_at-kept φ.functions.store φ.behind order-spared j (φ.functions.store.numbers.below (from + i) (omega (arith, φ.functions.room))) in
          let sum : index + from + i ≡ index + (from + i) = omega arith in
          let f : Fine text ws j = rw sum at (fine_in φ.rows i l) in
          rw q (record { inside = omega (arith, e, f.inside); good = rw same f.good; fits = rw same f.fits })
