-- A filtered section has some of its items, so it prints no more. Assumes nothing.
use Prim.Native.Nat.{ℕ, ◌+◌, ◌≤◌}
use native.Mathlib.Omega.{arith}
use mathlib.Core.Path.{◌≡◌, refl, ap}
use mathlib.Core.Bool.{Bool, true, false}
use mathlib.Core.List.{List, [], ◌∷◌, ◌++◌, map}
use lib.ListN.{length, length-append}
use Rattle.model.specs.Bytes.{Bytes}
use Rattle.model.specs.declared.Kind.{Kind}
use Rattle.model.specs.declared.Bound.{Bound}
use Rattle.model.specs.declared.Range.{Range}
use Rattle.std.specs.Prelude.{if◌then◌else◌}
use Rattle.model.specs.Lists.{filter, sort, concat_map}
use Rattle.model.specs.Ranges.{holds}
use Rattle.model.specs.Report.{Item, Report, compare_items}
use Rattle.model.specs.Printing.{is_function, is_branch, is_line, functions_of, compare_printed, sections, print_sections}
use Rattle.model.specs.Filter.{is_held, start_line, has_start, end_line, held_functions, filter_items, filter_section}
use Rattle.model.proofs.ListLaws.{each_append}
use Rattle.table_section.specs.Sections.{entries_at}
use Rattle.print_bound.specs.Bound.{item_lines, report_most}
use Rattle.print_bound.proofs.EachLaws.{sort-each, select_each-max, kinds_each}
use Rattle.print_bound.proofs.ReportLaws.{Thins, thinned_max}
use Rattle.print_report.specs.Printing.{PrintableTable}
use Rattle.print_report.proofs.LoopLaws.{entries-all}
use Rattle.print_report.proofs.BoundLaws.{entries-few}
use Rattle.filter.specs.Filtered.{filtered_from}

held-each-most : {B : Type 0} (f : Item → List B) (bound : Bound) (ranges : List Range) (l : List Item) → length (concat_map f (held_functions bound ranges l)) ≤ length (concat_map f l)
unfolding concat_map held_functions
held-each-most f bound ranges [] = omega arith
held-each-most f bound ranges (x ∷ xs) = go (holds ranges (start_line x) (end_line bound x xs)) (held-each-most f bound ranges xs)
  where
    go : (b : Bool) → length (concat_map f (held_functions bound ranges xs)) ≤ length (concat_map f xs)
        → length (concat_map f (if b then x ∷ held_functions bound ranges xs else held_functions bound ranges xs)) ≤ length (f x ++ concat_map f xs)
    go true h = omega (arith, length-append (f x) (concat_map f (held_functions bound ranges xs)), length-append (f x) (concat_map f xs))
    go false h = omega (arith, length-append (f x) (concat_map f xs))

module _ {B : Type 0} (f : Item → List B) (bound : Bound) (ranges : List Range) where
  three_each : (a b c : List Item) → length (concat_map f (a ++ b ++ c)) ≡ length (concat_map f a) + length (concat_map f b) + length (concat_map f c)
  three_each a b c = simp (each_append, length-append)

  items-each-most : (items : List Item) → length (concat_map f (filter_items bound ranges items)) ≤ length (concat_map f items)
  unfolding filter_items functions_of
  items-each-most items =
      let fs = filter is_function items in
      let bs = filter is_branch items in
      let ls = filter is_line items in
      let started = filter has_start (sort compare_printed fs) in
      omega (
        arith,
        three_each (sort compare_items (held_functions bound ranges started)) (filter (is_held ranges) bs) (filter (is_held ranges) ls),
        sort-each f compare_items (held_functions bound ranges started),
        held-each-most f bound ranges started,
        select_each-max f has_start (sort compare_printed fs),
        sort-each f compare_printed fs,
        select_each-max f (is_held ranges) bs,
        select_each-max f (is_held ranges) ls,
        kinds_each f items,
      )

each-one : (l : List Item) → concat_map (λ x. x ∷ []) l ≡ l
unfolding concat_map
each-one [] = refl
each-one (x ∷ xs) = ap (λ (t : List Item). x ∷ t) (each-one xs)

thins : (tag : Kind → Bytes) (bound : Bound) (ranges : List Range) → Thins tag (filter_section bound ranges)
unfolding filter_section
thins tag bound ranges = record {
  test = λ s. refl;
  spelling = λ s. refl;
  items = λ s. omega (
    arith,
    items-each-most (λ x. x ∷ []) bound ranges s.items,
    ap length (each-one s.items),
    ap length (each-one (filter_items bound ranges s.items)),
  );
  fewer = λ s. items-each-most (item_lines tag) bound ranges s.items;
}

pub filtered-most : (tag : Kind → Bytes) {text ws : List ℕ} {index used n spare : ℕ} (bound : Bound) (ranges : List Range) → PrintableTable text ws index used n spare
    → length (filtered_from tag bound ranges text index n ws 0) ≤ report_most tag (entries_at text ws index n)
filtered-most tag {text} {ws} {index} {n = n} bound ranges π =
    omega (
      arith,
      thinned_max tag (filter_section bound ranges) (thins tag bound ranges) (entries_at text ws index n) (entries-few π),
      ap (λ (r : Report). length (print_sections tag (map (filter_section bound ranges) (sections r)))) (entries-all text ws index n),
    )
