-- How much each element of a list gives: the same in any order, and no more for a part of the list. Assumes nothing.
use Prim.Native.Nat.{◌+◌, ◌≤◌, Ordering}
use native.Mathlib.Omega.{arith}
use mathlib.Core.Path.{◌≡◌, refl}
use mathlib.Core.Bool.{Bool, true, false}
use mathlib.Core.List.{List, [], ◌∷◌, ◌++◌}
use lib.ListN.{length, length-append}
use Rattle.std.specs.Prelude.{if◌then◌else◌}
use Rattle.model.specs.Lists.{filter, insert_sorted, sort, concat_map}
use Rattle.model.specs.Report.{Item, section_item, function_item, branch_item, line_item}
use Rattle.model.specs.Printing.{is_function, is_branch, is_line}

module _ {A B : Type 0} (f : A → List B) (c : A → A → Ordering) where
  insert-each : (x : A) (l : List A) → length (concat_map f (insert_sorted c x l)) ≡ length (f x) + length (concat_map f l)
  unfolding concat_map insert_sorted
  insert-each x [] = length-append (f x) []
  insert-each x (y ∷ ys) = go (c x y) refl (insert-each x ys)
    where
      go : (o : Ordering) → c x y ≡ o → length (concat_map f (insert_sorted c x ys)) ≡ length (f x) + length (concat_map f ys)
          → length (concat_map f (insert_sorted c x (y ∷ ys))) ≡ length (f x) + length (f y ++ concat_map f ys)
      go Ordering.lt o ih = rw (o, insert_sorted) (length-append (f x) (f y ++ concat_map f ys))
      go Ordering.eq o ih = rw (o, insert_sorted) (length-append (f x) (f y ++ concat_map f ys))
      go Ordering.gt o ih =
          rw (o, insert_sorted)
          (omega (arith, length-append (f y) (concat_map f (insert_sorted c x ys)), length-append (f y) (concat_map f ys), ih))

  -- sorted, the results are as long
  pub sort-each : (l : List A) → length (concat_map f (sort c l)) ≡ length (concat_map f l)
  unfolding concat_map sort
  sort-each [] = refl
  sort-each (x ∷ xs) = omega (arith, insert-each x (sort c xs), sort-each xs, length-append (f x) (concat_map f xs))

-- selected, they are no longer
pub select_each-max : {A B : Type 0} (f : A → List B) (test : A → Bool) (l : List A) → length (concat_map f (filter test l)) ≤ length (concat_map f l)
unfolding concat_map filter
select_each-max f test [] = omega arith
select_each-max f test (x ∷ xs) = go (test x) (select_each-max f test xs)
  where
    go : (b : Bool) → length (concat_map f (filter test xs)) ≤ length (concat_map f xs)
        → length (concat_map f (if b then x ∷ filter test xs else filter test xs)) ≤ length (f x ++ concat_map f xs)
    go true h = omega (arith, length-append (f x) (concat_map f (filter test xs)), length-append (f x) (concat_map f xs))
    go false h = omega (arith, length-append (f x) (concat_map f xs))

-- an item is of one kind
pub kinds_each : {B : Type 0} (f : Item → List B) (items : List Item)
    → length (concat_map f (filter is_function items)) + length (concat_map f (filter is_branch items)) + length (concat_map f (filter is_line items)) ≤ length (concat_map f items)
unfolding concat_map filter is_function is_branch is_line
kinds_each f [] = omega arith
kinds_each f (section_item spelling ∷ is) = omega (arith, kinds_each f is, length-append (f (section_item spelling)) (concat_map f is))
kinds_each f (function_item fn ∷ is) =
    let i = function_item fn in
    omega (arith, kinds_each f is, length-append (f i) (concat_map f (filter is_function is)), length-append (f i) (concat_map f is))
kinds_each f (branch_item line block branch taken ∷ is) =
    let i = branch_item line block branch taken in
    omega (arith, kinds_each f is, length-append (f i) (concat_map f (filter is_branch is)), length-append (f i) (concat_map f is))
kinds_each f (line_item line count checksum ∷ is) =
    let i = line_item line count checksum in
    omega (arith, kinds_each f is, length-append (f i) (concat_map f (filter is_line is)), length-append (f i) (concat_map f is))
