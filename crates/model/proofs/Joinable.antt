-- The three conditions of demand 3 on the items at each key are the one test, by the items' kind, that the merges make. Assumes nothing.
use Prim.Native.Nat.{ℕ, ◌+◌}
use native.Mathlib.Omega.{arith}
use mathlib.Core.Path.{◌≡◌, refl, sym, ap, ◌∙◌}
use mathlib.Core.Logic.{◌↔◌}
use mathlib.Core.Bool.{Bool, true, false, ◌&&◌}
use mathlib.Core.List.Memᴰ.{head as here}
use mathlib.Core.List.Memᴰ.{tail as there}
use mathlib.Core.List.{List, [], ◌∷◌, map, Memᴰ as Member}
use mathlib.Core.List.Memᴰ
use mathlib.Core.Option.{Option, none}
use lib.Dec.{leb, eqb}
use borrow.Author.Tests.{le-leb}
use Rattle.ordmap.specs.Keyed.{with_key}
use Rattle.ordmap.proofs.Members.{only_member}
use Rattle.model.specs.Bytes.{same_bytes}
use Rattle.model.specs.Limits.{u64_max}
use Rattle.model.specs.Report.{
  Item,
  section_item,
  function_item,
  branch_item,
  line_item,
  item_key,
  Entry,
  Report,
  Key,
  compare_keys,
  entry_key,
  extent_of,
  start_of,
  checksum_of,
  count_of,
}
use Rattle.model.specs.Joined.{all_entries, items_at, agreeing, total, summed_of, starts_agree, checksums_agree, sums_fit}
use Rattle.model.proofs.ListLaws.{and_left, and_right, all-each, each_all}
use Rattle.model.proofs.KeyOrder.{keys-order}
use Rattle.model.proofs.Items.{joinable_as, joinable, joins}
use Rattle.model.proofs.Entries.{by_key}

-- ---- items of one key

-- what an item of the first one's kind does not have, and what it counts for in a sum
abbrev Lacks : Item → Item → Type 0
Lacks (section_item spelling) j = (start_of j ≡ none) × (checksum_of j ≡ none) × (summed_of j ≡ 0)
Lacks (function_item f) j = (checksum_of j ≡ none) × (summed_of j ≡ 0)
Lacks (branch_item line block branch taken) j = (start_of j ≡ none) × (checksum_of j ≡ none) × (summed_of j ≡ count_of j)
Lacks (line_item line count checksum) j = (start_of j ≡ none) × (summed_of j ≡ count_of j)

lacks : (i j : Item) → item_key i ≡ item_key j → Lacks i j
unfolding extent_of checksum_of summed_of count_of
lacks i j e =
    by_key Lacks (λ p q. (refl, refl, refl)) (λ f g h. (refl, refl)) (λ line block branch s t. (refl, refl, refl))
    (λ line c d s t. (refl, refl)) i j e

agreeing-none : {A : Type 0} (same : A → A → Bool) (f : Item → Option A) (is : List Item) → ((j : Item) → Member j is → f j ≡ none)
    → agreeing same (map f is) ≡ true
unfolding agreeing
agreeing-none same f [] h = refl
agreeing-none same f (i ∷ is) h = rw (h i (here refl)) (agreeing-none same f is (λ j m. h j (there m)))

total-zero : (f : Item → ℕ) (is : List Item) → ((j : Item) → Member j is → f j ≡ 0) → total (map f is) ≡ 0
unfolding total
total-zero f [] h = refl
total-zero f (i ∷ is) h = omega (arith, h i (here refl), total-zero f is (λ j m. h j (there m)))

total-same : (f g : Item → ℕ) (is : List Item) → ((j : Item) → Member j is → f j ≡ g j) → total (map f is) ≡ total (map g is)
unfolding total
total-same f g [] h = refl
total-same f g (i ∷ is) h = omega (arith, h i (here refl), total-same f g is (λ j m. h j (there m)))

-- the three tests of the items at a key
abbrev starts : List Item → Bool
starts is = agreeing eqb (map start_of is)

abbrev checksums : List Item → Bool
checksums is = agreeing same_bytes (map checksum_of is)

abbrev sums : List Item → Bool
sums is = leb (total (map summed_of is)) u64_max

sums-zero : (is : List Item) → ((j : Item) → Member j is → summed_of j ≡ 0) → sums is ≡ true
sums-zero is h = le-leb (total (map summed_of is)) u64_max (omega (arith, total-zero summed_of is h))

sums_same : (is : List Item) → ((j : Item) → Member j is → summed_of j ≡ count_of j) → sums is ≡ leb (total (map count_of is)) u64_max
sums_same is h = ap (λ (n : ℕ). leb n u64_max) (total-same summed_of count_of is h)

and_true : (b : Bool) → (b && true) ≡ b
and_true true = refl
and_true false = refl

joinable_as_tests : (i : Item) (is : List Item) → ((j : Item) → Member j is → Lacks i j) → joinable_as i is ≡ (starts is && (checksums is && sums is))
unfolding joinable_as
joinable_as_tests (section_item spelling) is l =
    rw (agreeing-none eqb start_of is (λ j m. (l j m).0), agreeing-none same_bytes checksum_of is (λ j m. (l j m).1), sums-zero is (λ j m. (l j m).2))
joinable_as_tests (function_item f) is l =
    rw (agreeing-none same_bytes checksum_of is (λ j m. (l j m).0), sums-zero is (λ j m. (l j m).1)) (sym (and_true (starts is)))
joinable_as_tests (branch_item line block branch taken) is l =
    rw (agreeing-none eqb start_of is (λ j m. (l j m).0), agreeing-none same_bytes checksum_of is (λ j m. (l j m).1), sums_same is (λ j m. (l j m).2))
joinable_as_tests (line_item line count checksum) is l =
    rw (agreeing-none eqb start_of is (λ j m. (l j m).0), sums_same is (λ j m. (l j m).1))

joinable_tests : (is : List Item) → ((i j : Item) → Member i is → Member j is → item_key i ≡ item_key j) → joinable is ≡ (starts is && (checksums is && sums is))
unfolding joinable agreeing total
joinable_tests [] h = refl
joinable_tests (i ∷ is) h = joinable_as_tests i (i ∷ is) (λ j m. lacks i j (h i j (here refl) m))

-- ---- reports

module _ (reports : List Report) where
  -- items at one key have one key
  at_one-key : (k : Key) (i : Item) → Member i (items_at k reports) → item_key i ≡ k.1
  unfolding items_at entry_key
  at_one-key k i m =
      let (e, n, q) = Memᴰ.of_map (λ e. e.item) (with_key entry_key compare_keys k (all_entries reports)) m in
      ap item_key (sym q) ∙ ap (λ (x : Key). x.1) (only_member entry_key compare_keys keys-order k (all_entries reports) n).1

  tests : (k : Key) → joinable (items_at k reports) ≡ (starts (items_at k reports) && (checksums (items_at k reports) && sums (items_at k reports)))
  tests k = joinable_tests (items_at k reports) (λ i j m n. at_one-key k i m ∙ sym (at_one-key k j n))

  -- EXACTLY the three conditions
  pub joins_exactly : (joins reports ≡ true) ↔ ((starts_agree reports ≡ true) × (checksums_agree reports ≡ true) × (sums_fit reports ≡ true))
  joins_exactly = (to, from)
    where
      at : Entry → List Item
      at e = items_at (entry_key e) reports

      split : joins reports ≡ true → (e : Entry) → Member e (all_entries reports) → (starts (at e) && (checksums (at e) && sums (at e))) ≡ true
      split h e m = sym (tests (entry_key e)) ∙ all-each (λ e. joinable (at e)) (all_entries reports) h e m

      to : joins reports ≡ true → (starts_agree reports ≡ true) × (checksums_agree reports ≡ true) × (sums_fit reports ≡ true)
      to h = (
        each_all (λ e. starts (at e)) (all_entries reports) (λ e m. and_left (starts (at e)) (checksums (at e) && sums (at e)) (split h e m)),
        each_all (λ e. checksums (at e)) (all_entries reports)
            (λ e m. and_left (checksums (at e)) (sums (at e)) (and_right (starts (at e)) (checksums (at e) && sums (at e)) (split h e m))),
        each_all (λ e. sums (at e)) (all_entries reports)
            (λ e m. and_right (checksums (at e)) (sums (at e)) (and_right (starts (at e)) (checksums (at e) && sums (at e)) (split h e m))),
      )

      from : (starts_agree reports ≡ true) × (checksums_agree reports ≡ true) × (sums_fit reports ≡ true) → joins reports ≡ true
      from (s, c, t) =
          each_all (λ e. joinable (at e)) (all_entries reports)
          (λ e m. tests (entry_key e)
          ∙ rw (
            all-each (λ e. starts (at e)) (all_entries reports) s e m,
            all-each (λ e. checksums (at e)) (all_entries reports) c e m,
            all-each (λ e. sums (at e)) (all_entries reports) t e m,
          ))
