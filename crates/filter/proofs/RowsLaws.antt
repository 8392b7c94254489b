-- What stays of a section's rows, run after run. Assumes nothing.
use Prim.Native.Nat.{ℕ, ◌+◌, ◌-◌, ◌≤◌, ◌<◌}
use native.Mathlib.Omega.{arith}
use native.Mathlib.Nat.{add-zero}
use mathlib.Core.Path.{◌≡◌, ap, ◌∙◌}
use mathlib.Core.List.{List}
use lib.ListN.{length}
use Rattle.table.specs.Rows.{word, Moved}
use Rattle.model.specs.declared.Bound.{Bound}
use Rattle.model.specs.declared.Range.{Range}
use Rattle.model.specs.Bytes.{Bytes}
use Rattle.model.specs.Lists.{filter}
use Rattle.model.specs.Report.{Item}
use Rattle.model.specs.Filter.{is_held, has_start, held_functions}
use Rattle.table_item.specs.SortedItems.{items_at}
use Rattle.section.specs.Table.{Table}
use Rattle.print_sort.specs.Sorting.{items_by, InPrintOrder}
use Rattle.print_report.specs.declared.KindRanges.{KindRanges}
use Rattle.print_report.specs.Printing.{PrintableTable, UnchangedBefore, AreKindRanges, FunctionRows}
use Rattle.print_report.proofs.TableLaws.{spared_both, printable-kept, index-printable, items_kept, order-spared, order-printable}
use Rattle.filter.specs.Keeping.{Behind, Chosen}
use Rattle.filter.specs.Filtered.{Holding, functions_left, KeptRows}
use Rattle.filter.proofs.KeepLaws.{behind_of, items_of}

spared-less : {ws ws' : List ℕ} {p : ℕ} (q : ℕ) → q ≤ p → UnchangedBefore ws ws' p → UnchangedBefore ws ws' q
spared-less q h σ = record { words = σ.words; kept = λ j l. σ.kept j (omega arith) }

-- ---- numbers that are copied

module _ {ws ws' : List ℕ} {from to n : ℕ} (μ : Moved ws ws' from to n) (e : length ws' ≡ length ws) (h : from + n ≤ to)
    (room : to + n ≤ length ws) where
  moved-spared : UnchangedBefore ws ws' to
  moved-spared = record { words = e; kept = λ j l. μ.kept.below j l }

  moved_word : (k : ℕ) → k < n → word ws' (to + k) ≡ word ws (from + k)
  moved_word k l = μ.shifted (to + k) (from + k) (omega arith) (omega arith) (omega arith)

  pub moved-rows : {text : Bytes} → Behind text ws from n → Behind text ws' to n
  moved-rows β = behind_of moved-spared β (omega arith) to n (omega arith) room (λ k l. (k, l, moved_word k l))

  moved-items : {text : Bytes} → Behind text ws from n → items_by text ws' to n ≡ items_by text ws from n
  moved-items {text} β =
      items_of moved-spared β.before (omega arith) text to n 0 (omega arith)
      (λ k l. moved_word k l ∙ ap (λ (j : ℕ). word ws (from + j)) (let z : k ≡ 0 + k = omega arith in z))
      ∙ ap (λ (j : ℕ). items_by text ws j n) (add-zero from)

  pub moved-chosen : (choose : List Item → List Item) {ws'' : List ℕ} {r : ℕ} → Chosen choose ws' ws'' to n to r → Chosen choose ws ws'' from n to r
  moved-chosen choose χ = record {
    most = χ.most;
    spared = spared_both moved-spared χ.spared;
    rows = λ text β. χ.rows text (moved-rows β);
    are = λ text β. χ.are text (moved-rows β) ∙ ap choose (moved-items β);
  }

-- ---- functions

module _ {text ws ws₁ : List ℕ} {index used from n spare : ℕ} (φ : FunctionRows text ws index used from n spare)
    (ρ : InPrintOrder text ws ws₁ index from n spare) (e : length ws₁ ≡ length ws) where
  pub order-behind : Behind text ws₁ spare n
  order-behind = record {
    printable = order-printable φ ρ e;
    before = λ k l. let (i, a, q) = ρ.each k l in
        rw q (omega (
          arith,
          φ.behind,
          φ.functions.store.rows_end,
          φ.functions.store.numbers.below (from + i)
              (omega (arith, φ.functions.room)),
        ));
  }

  module _ (bound : Bound) (ranges : List Range) {ws₂ ws₃ : List ℕ} {s r : ℕ} (χ : Chosen (filter has_start) ws₁ ws₂ spare n spare s)
      (ψ : Chosen (held_functions bound ranges) ws₂ ws₃ spare s spare r) where
    pub functions-held : Holding text ws₃ spare r (functions_left bound ranges (items_at text ws index from n))
    functions-held = record {
      rows = ψ.rows text (χ.rows text order-behind);
      are = ψ.are text (χ.rows text order-behind) ∙ ap (held_functions bound ranges) (χ.are text order-behind ∙ ap (filter has_start) ρ.sorted);
      few = omega (arith, χ.most, ψ.most, φ.few);
    }

    pub functions-spared : UnchangedBefore ws ws₃ spare
    functions-spared = spared_both (order-spared φ ρ e) (spared_both χ.spared ψ.spared)

-- ---- the rows of a kind's range

-- numbers as the index has them
index-behind : {text ws : List ℕ} {index used n : ℕ} → Table text ws index used n → (from end : ℕ) → from ≤ end → end ≤ n
    → Behind text ws (index + from) (end - from)
index-behind {index = index} τ from end l h = record {
  printable = index-printable τ from end l h;
  before = λ k i.
      let e : index + from + k ≡ index + (from + k) = omega arith in
      rw e (omega (arith, τ.store.rows_end, τ.store.numbers.below (from + k) (omega (arith, τ.room))));
}

holding_kept : {text ws ws' : List ℕ} {numbers n p : ℕ} {items : List Item} → UnchangedBefore ws ws' p → numbers + n ≤ p → Holding text ws numbers n items
    → Holding text ws' numbers n items
holding_kept {text} {ws} {ws'} {numbers} {n} σ h η = record {
  rows = behind_of σ η.rows (omega arith) numbers n (omega arith) η.rows.printable.numbered.words (λ k l. (k, l, σ.kept (numbers + k) (omega arith)));
  are =
      items_of σ η.rows.before (omega arith) text numbers n 0 (omega arith)
      (λ k l. σ.kept (numbers + k) (omega arith) ∙ ap (λ (j : ℕ). word ws (numbers + j)) (let z : k ≡ 0 + k = omega arith in z))
      ∙ ap (λ (j : ℕ). items_by text ws j n) (add-zero numbers) ∙ η.are;
  few = η.few;
}

module _ {text ws : List ℕ} {index used n spare : ℕ} (π : PrintableTable text ws index used n spare) where
  -- of the branches or lines from place `from` up to `end`
  run-held : (ranges : List Range) {ws₁ ws₂ : List ℕ} {to r : ℕ} (from end : ℕ) → UnchangedBefore ws ws₁ spare → from ≤ end → end ≤ n
      → Chosen (filter (is_held ranges)) ws₁ ws₂ (index + from) (end - from) to r
      → Holding text ws₂ to r (filter (is_held ranges) (items_at text ws index from (end - from)))
  run-held ranges from end σ l h χ =
      let β = index-behind (printable-kept π σ).table from end l h in
      record {
        rows = χ.rows text β;
        are = χ.are text β ∙ ap (filter (is_held ranges)) (items_kept π σ from end h);
        few = omega (arith, χ.most, π.few);
      }

  -- ---- run after run

  module _ {from : ℕ} {runs : KindRanges} (ρ : AreKindRanges ws index n from runs) where
    pub runs_places : (from ≤ runs.functions) × (runs.functions ≤ runs.branches) × (runs.branches ≤ runs.lines) × (runs.lines ≤ n)
        × (index + n ≤ spare) × (spare + n + n ≤ length ws)
    runs_places = (
      ρ.functions.least,
      ρ.branches.least,
      ρ.lines.least,
      ρ.lines.most,
      omega (arith, π.behind, π.table.room),
      π.words,
    )

    module _ (bound : Bound) (ranges : List Range) {ws₁ : List ℕ} {f : ℕ} (most : f ≤ runs.functions - from) (σ : UnchangedBefore ws ws₁ spare)
        (η : Holding text ws₁ spare f (functions_left bound ranges (items_at text ws index from (runs.functions - from)))) where
      pub branches_ready : Behind text ws₁ (index + runs.functions) (runs.branches - runs.functions)
      branches_ready = index-behind (printable-kept π σ).table runs.functions runs.branches ρ.branches.least ρ.branches.most

      pub branches-room : (index + runs.functions + (runs.branches - runs.functions) ≤ spare + f)
          × (spare + f + (runs.branches - runs.functions) ≤ length ws₁)
      branches-room = (omega (arith, runs_places), omega (arith, runs_places, most, σ.words))

      module _ {ws₂ : List ℕ} {b : ℕ}
          (χ : Chosen (filter (is_held ranges)) ws₁ ws₂ (index + runs.functions) (runs.branches - runs.functions) (spare + f) b) where
        then-spared : UnchangedBefore ws ws₂ spare
        then-spared = spared_both σ (spared-less spare (omega arith) χ.spared)

        pub lines_ready : Behind text ws₂ (index + runs.branches) (runs.lines - runs.branches)
        lines_ready = index-behind (printable-kept π then-spared).table runs.branches runs.lines ρ.lines.least ρ.lines.most

        pub lines-room : (index + runs.branches + (runs.lines - runs.branches) ≤ spare + f + b)
            × (spare + f + b + (runs.lines - runs.branches) ≤ length ws₂)
        lines-room = (omega (arith, runs_places), omega (arith, runs_places, most, χ.most, then-spared.words))

        pub rows-kept : {ws₃ : List ℕ} {l : ℕ}
            → Chosen (filter (is_held ranges)) ws₂ ws₃ (index + runs.branches) (runs.lines - runs.branches) (spare + f + b) l
            → KeptRows bound ranges text ws ws₃ index from spare runs (record { functions = f; branches = b; lines = l })
        rows-kept ψ = record {
          functions = holding_kept (spared_both χ.spared (spared-less (spare + f) (omega arith) ψ.spared)) (omega arith) η;
          branches = holding_kept ψ.spared (omega arith)
              (run-held ranges runs.functions runs.branches σ ρ.branches.least ρ.branches.most χ);
          lines = run-held ranges runs.branches runs.lines then-spared ρ.lines.least ρ.lines.most ψ;
          spared = spared_both then-spared (spared-less spare (omega arith) ψ.spared);
        }
