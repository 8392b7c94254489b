-- What is printed of items has one length, in whatever order they are. Assumes nothing.
use Prim.Native.Nat.{ℕ, suc, ◌+◌, Ordering}
use native.Mathlib.Omega.{arith}
use mathlib.Core.Path.{◌≡◌, refl, sym, ap, ap₂, ◌∙◌}
use mathlib.Core.Bool.{Bool, true, false}
use mathlib.Core.List.{List, [], ◌∷◌, ◌++◌}
use lib.Dec.{ltb}
use lib.ListN.{length, length-append}
use Rattle.model.specs.declared.Kind.{Kind}
use Rattle.std.specs.Prelude.{if◌then◌else◌}
use Rattle.model.specs.Bytes.{Bytes, newline}
use Rattle.model.specs.Lists.{filter, sort, concat_map}
use Rattle.model.specs.Line.{print_record}
use Rattle.model.specs.Record.{Record, functions_found, functions_hit}
use Rattle.model.specs.Report.{Item, count_of}
use Rattle.model.specs.Printing.{start_record, data_record, hits, group, print_records}
use Rattle.model.proofs.ListLaws.{each_append, sort-length}
use Rattle.print_rows.proofs.PassLaws.{lines-append}
use Rattle.print_bound.proofs.EachLaws.{sort-each}
use Rattle.print_report.specs.Printing.{function_lines}

-- ---- lists

each-each : {A B C : Type 0} (g : B → List C) (f : A → List B) (l : List A) → concat_map g (concat_map f l) ≡ concat_map (λ x. concat_map g (f x)) l
unfolding concat_map
each-each g f [] = refl
each-each g f (x ∷ xs) = each_append g (f x) (concat_map f xs) ∙ ap (λ t. concat_map g (f x) ++ t) (each-each g f xs)

select_each : {A : Type 0} (test : A → Bool) (l : List A) → filter test l ≡ concat_map (λ x. if test x then x ∷ [] else []) l
unfolding concat_map filter
select_each test [] = refl
select_each {A} test (x ∷ xs) = go (test x) (select_each test xs)
  where
    go : (b : Bool) → filter test xs ≡ concat_map (λ y. if test y then y ∷ [] else []) xs
        → (if b then x ∷ filter test xs else filter test xs) ≡ (if b then x ∷ [] else []) ++ concat_map (λ y. if test y then y ∷ [] else []) xs
    go true e = ap (λ (t : List A). x ∷ t) e
    go false e = e

-- ---- lines

module _ (tag : Kind → Bytes) (c : Item → Item → Ordering) (items : List Item) where
  print_sorted : (f : Item → List Record) → length (print_records tag (concat_map f (sort c items))) ≡ length (print_records tag (concat_map f items))
  unfolding print_records
  print_sorted f =
      ap length (each-each (λ r. print_record tag r ++ newline ∷ []) f (sort c items))
      ∙ sort-each (λ x. concat_map (λ r. print_record tag r ++ newline ∷ []) (f x)) c items
      ∙ ap length (sym (each-each (λ r. print_record tag r ++ newline ∷ []) f items))

  hits-sorted : hits (sort c items) ≡ hits items
  unfolding hits
  hits-sorted =
      ap length (select_each (λ i. ltb 0 (count_of i)) (sort c items))
      ∙ sort-each (λ x. if ltb 0 (count_of x) then x ∷ [] else []) c items
      ∙ ap length (sym (select_each (λ i. ltb 0 (count_of i)) items))

-- a group with an item: its data, and how many were found and hit
module _ (tag : Kind → Bytes) (found hit : ℕ → Record) where
  group_lines_lem : List Item → ℕ → ℕ → Bytes
  group_lines_lem items n h = print_records tag (concat_map data_record items) ++ print_records tag (found n ∷ hit h ∷ [])

  group-is : (items : List Item) (n : ℕ) → length items ≡ suc n
      → print_records tag (group found hit items) ≡ group_lines_lem items (length items) (hits items)
  unfolding group group_lines_lem
  group-is [] n e = absurd (omega arith)
  group-is (i ∷ is) n e = lines-append tag (concat_map data_record (i ∷ is)) (found (length (i ∷ is)) ∷ hit (hits (i ∷ is)) ∷ [])

  group-sorted : (c : Item → Item → Ordering) (items : List Item)
      → length (print_records tag (group found hit (sort c items))) ≡ length (print_records tag (group found hit items))
  unfolding group sort group_lines_lem
  group-sorted c [] = refl
  group-sorted c (i ∷ is) =
      ap length (group-is (sort c (i ∷ is)) (length is) (sort-length c (i ∷ is)))
      ∙ ap₂ (λ (n h : ℕ). length (group_lines_lem (sort c (i ∷ is)) n h)) (sort-length c (i ∷ is)) (hits-sorted tag c (i ∷ is))
      ∙ length-append (print_records tag (concat_map data_record (sort c (i ∷ is)))) last
      ∙ ap (λ (n : ℕ). n + length last) (print_sorted tag c (i ∷ is) data_record)
      ∙ sym (length-append (print_records tag (concat_map data_record (i ∷ is))) last)
      ∙ ap length (sym (group-is (i ∷ is) (length is) refl))
    where
      last : Bytes
      last = print_records tag (found (length (i ∷ is)) ∷ hit (hits (i ∷ is)) ∷ [])

pub functions-sorted : (tag : Kind → Bytes) (c : Item → Item → Ordering) (items : List Item) → length (function_lines tag (sort c items)) ≡ length (function_lines tag items)
functions-sorted tag c items =
    length-append (print_records tag (concat_map start_record (sort c items))) (print_records tag (group functions_found functions_hit (sort c items)))
    ∙ ap₂ ◌+◌ (print_sorted tag c items start_record) (group-sorted tag functions_found functions_hit c items)
    ∙ sym (length-append (print_records tag (concat_map start_record items)) (print_records tag (group functions_found functions_hit items)))
