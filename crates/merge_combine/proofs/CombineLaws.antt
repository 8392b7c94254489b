-- What two rows of one key make, kind by kind. Assumes nothing.
use Prim.Native.Nat.{ℕ, zero, suc, ◌+◌, ◌/◌, ◌%◌, ◌≤◌, ◌<◌, min, max}
use native.Mathlib.Omega.{arith}
use mathlib.Core.Path.{◌≡◌, refl, sym, ap, ap₂, ◌∙◌}
use mathlib.Core.Logic.{◌≢◌, ◌⊎◌, inl, inr}
use mathlib.Core.Bool.{Bool, true, false}
use mathlib.Core.Option.{Option, none, some}
use lib.Dec.{leb, ltb, eqb, eqb-suc-suc}
use borrow.Author.Tests.{le-leb, lt-ltb, le-ltb, ltb-true, ltb-false, eqb-true}
use Rattle.ordmap.proofs.Results.{impossible}
use Rattle.model.proofs.Items.{larger-none}
use Rattle.table.specs.declared.Row.{Row}
use Rattle.model.specs.declared.Fault.{Fault}
use Rattle.model.specs.declared.Fault.TheVariants.{UnmatchedFunctionLine, UnmatchedChecksum, CountOverflow}
use Rattle.model.specs.declared.Mode.{Mode}
use Rattle.model.specs.declared.Mode.TheVariants.{Checked, Lossy}
use Rattle.std.specs.Prelude.{if◌then◌else◌}
use Rattle.model.specs.Bytes.{Bytes, same_bytes}
use Rattle.model.specs.Limits.{u64_max}
use Rattle.model.specs.Answer.{Answer, accepted, refused, ◌>>=◌, refuse}
use Rattle.model.specs.Report.{extent_at, Extent, updated, Item, extent_of, join_extents, combine_extents, function_item, branch_item, line_item, section_key, in_section, taken_of, checksum_of, count_of, sum, sum_taken, agree, combine_items, combine_entries}
use Rattle.table_item.specs.Items.{part, kind_of, function_kind, branch_kind, line_kind, if_given, line_numbers, extent_in, start_key, function_in, item_of, ItemInBounds}
use Rattle.table_item.proofs.CountLaws.{function-item}
use Rattle.table_item.proofs.RowLaws.{KeyOf, function-extent}
use Rattle.table_section.specs.Sections.{entry_of, RowInBounds}
use Rattle.merge_combine.specs.declared.Choice.{Choice}
use Rattle.merge_combine.specs.declared.Choice.TheVariants.{Earlier, Later, Neither}
use Rattle.std.specs.Prelude.{Result, Ok, Err}
use Rattle.merge_combine.specs.Combined.{choice_of, made, with_larger_end, summed, RowsCombined}

-- ---- which of two stays

choice_both : (mode : Mode) (e l : ℕ) (alike : Bool) → l ≢ 0 → e ≢ 0 → choice_of mode e l alike ≡ choice_of mode 1 1 alike
choice_both mode e zero alike h g = absurd (h refl)
choice_both mode zero (suc l) alike h g = absurd (g refl)
choice_both Checked (suc e) (suc l) true h g = refl
choice_both Checked (suc e) (suc l) false h g = refl
choice_both Lossy (suc e) (suc l) alike h g = refl

module _ (mode : Mode) (e l : ℕ) (alike : Bool) (h : l ≢ 0) (g : e ≢ 0) where
  pub choice_alike : mode ≡ Checked → alike ≡ true → Earlier ≡ choice_of mode e l alike
  choice_alike p q = sym (choice_both mode e l alike h g ∙ ap₂ (λ (m : Mode) (a : Bool). choice_of m 1 1 a) p q)

  pub choice_neither : mode ≡ Checked → alike ≡ false → Neither ≡ choice_of mode e l alike
  choice_neither p q = sym (choice_both mode e l alike h g ∙ ap₂ (λ (m : Mode) (a : Bool). choice_of m 1 1 a) p q)

  pub choice_lossy : mode ≡ Lossy → Later ≡ choice_of mode e l alike
  choice_lossy p = sym (choice_both mode e l alike h g ∙ ap (λ (m : Mode). choice_of m 1 1 alike) p)

abbrev chosen : {A : Type 0} → Fault → Option A → Option A → Choice → Answer (Option A)
chosen fault s t Earlier = accepted s
chosen fault s t Later = accepted t
chosen fault s t Neither = refuse fault

-- the choice is that of the model
agreed : {A : Type 0} (same : A → A → Bool) (mode : Mode) (fault : Fault) (e l : ℕ) (a b : A) (alike : Bool) → (e ≢ 0 → l ≢ 0 → alike ≡ same a b)
    → agree same mode fault (if_given e a) (if_given l b) ≡ chosen fault (if_given e a) (if_given l b) (choice_of mode e l alike)
unfolding agree
agreed same mode fault zero zero a b alike h = refl
agreed same mode fault zero (suc l) a b alike h = refl
agreed same mode fault (suc e) zero a b alike h = refl
agreed same Lossy fault (suc e) (suc l) a b alike h = refl
agreed {A} same Checked fault (suc e) (suc l) a b alike h = rw (← (h (omega arith) (omega arith))) (go alike)
  where
    go : (t : Bool) → ◌≡◌ {A = Answer (Option A)} (if t then accepted (some a) else refuse fault) (chosen fault (some a) (some b) (choice_of Checked (suc e) (suc l) t))
    go true = refl
    go false = refl

-- ---- what FN says

-- the earlier row stays only where the later has no start line or the same one
choice_earlier : (mode : Mode) (e l : ℕ) → choice_of mode e l (eqb e l) ≡ Earlier → (l ≡ 0) ⊎ (e ≡ l)
choice_earlier mode e zero h = inl refl
choice_earlier mode zero (suc l) h = impossible cc
choice_earlier Lossy (suc e) (suc l) h = impossible cc
choice_earlier Checked (suc e) (suc l) h = go (eqb (suc e) (suc l)) refl h
  where
    go : (t : Bool) → eqb (suc e) (suc l) ≡ t → choice_of Checked (suc e) (suc l) t ≡ Earlier → (suc l ≡ 0) ⊎ (suc e ≡ suc l)
    go true q h = inr (eqb-true (suc e) (suc l) q)
    go false q h = impossible cc

-- a later row whose key is not 0 has the earlier one's
same_key : {e l m n : ℕ} → (l ≡ 0) ⊎ (e ≡ l) → e ≡ m → l ≡ suc n → m ≡ suc n
same_key (inl z) p q = absurd (omega arith)
same_key (inr z) p q = omega arith

-- two FN of one start line, or one
abbrev joined_extents : Option Extent → Option Extent → Option Extent
joined_extents x none = x
joined_extents none (some b) = none
joined_extents (some a) (some b) = some (join_extents a b)

abbrev chosen_extent : Option Extent → Option Extent → Choice → Answer (Option Extent)
chosen_extent x y Earlier = accepted (joined_extents x y)
chosen_extent x y Later = accepted y
chosen_extent x y Neither = refuse UnmatchedFunctionLine

-- the choice is that of the model
extents_chosen : (mode : Mode) (x y : Option Extent)
    → combine_extents mode x y ≡ chosen_extent x y (choice_of mode (start_key x) (start_key y) (eqb (start_key x) (start_key y)))
unfolding combine_extents
extents_chosen mode none none = refl
extents_chosen mode none (some b) = refl
extents_chosen mode (some a) none = refl
extents_chosen Lossy (some a) (some b) = refl
extents_chosen Checked (some a) (some b) = rw (eqb-suc-suc a.start b.start) (go (eqb a.start b.start))
  where
    go : (t : Bool) → ◌≡◌ {A = Answer (Option Extent)} (if t then accepted (some (join_extents a b)) else refuse UnmatchedFunctionLine)
        (chosen_extent (some a) (some b) (choice_of Checked (suc a.start) (suc b.start) t))
    go true = refl
    go false = refl

-- a row without an end adds none
plain-kept : (m k l : ℕ) → extent_in m k ≡ joined_extents (extent_in m k) (extent_in 0 l)
plain-kept m k zero = refl
plain-kept m k (suc l) = go (extent_in m k)
  where
    go : (x : Option Extent) → x ≡ joined_extents x (some (extent_at l none))
    go none = refl
    go (some a) = ap (λ (e : Option ℕ). some (extent_at a.start e)) (sym (larger-none a.end))

-- one with an end gives it to one without
packed_taken : (n k l : ℕ) → start_key (extent_in 0 k) ≡ start_key (extent_in (suc n) l) → extent_in (suc n) l ≡ joined_extents (extent_in 0 k) (extent_in (suc n) l)
packed_taken n zero l e = absurd (omega arith)
packed_taken n (suc k) l e = let q : l % line_numbers ≡ k = omega arith in ap (λ (s : ℕ). some (extent_at s (some (l / line_numbers)))) q

-- of two words with one start line the greater has the larger end
packed_joined : (n m k l w : ℕ) → start_key (extent_in (suc m) k) ≡ start_key (extent_in (suc n) l) → w ≡ max k l
    → extent_in 1 w ≡ joined_extents (extent_in (suc m) k) (extent_in (suc n) l)
packed_joined n m k l w e q =
    let s : w % line_numbers ≡ k % line_numbers = omega arith in
    let t : w / line_numbers ≡ max (k / line_numbers) (l / line_numbers) = omega arith in
    ap₂ (λ (s l : ℕ). some (extent_at s (some l))) s t

-- ---- the larger end

module _ (row other : Row) where
  pub larger-kept : other.tag % 2 ≡ 0 → row ≡ with_larger_end (other.tag % 2) (row.tag % 2) row other
  larger-kept e = rw e

  module _ (g : other.tag % 2 ≢ 0) where
    pub larger-other : (r : Row) → row.tag % 2 ≡ 0 → r ≡ made row other.tag row.k2 other.k3 row.count → r ≡ with_larger_end (other.tag % 2) (row.tag % 2) row other
    larger-other r e q = let o : other.tag % 2 ≡ 1 = omega arith in q ∙ rw (o, e)

    both_given : row.tag % 2 ≢ 0 → with_larger_end (other.tag % 2) (row.tag % 2) row other
        ≡ (if ltb row.k3 other.k3 then made row other.tag row.k2 other.k3 row.count else row)
    both_given e = let o : other.tag % 2 ≡ 1 = omega arith in let p : row.tag % 2 ≡ 1 = omega arith in rw (o, p)

    pub larger-more : (r : Row) → row.tag % 2 ≢ 0 → row.k3 < other.k3 → r ≡ made row other.tag row.k2 other.k3 row.count → r ≡ with_larger_end (other.tag % 2) (row.tag % 2) row other
    larger-more r e h q = q ∙ sym (both_given e ∙ rw (lt-ltb row.k3 other.k3 h))

    pub larger-less : row.tag % 2 ≢ 0 → other.k3 ≤ row.k3 → row ≡ with_larger_end (other.tag % 2) (row.tag % 2) row other
    larger-less e h = sym (both_given e ∙ rw (le-ltb row.k3 other.k3 h))

-- ---- rows by kind

branch-item : (text : Bytes) (r : Row) → kind_of r ≡ branch_kind → item_of text r ≡ branch_item r.k1 r.k2 r.k3 (if_given (r.tag % 2) r.count)
unfolding item_of
branch-item text r e = rw e

line-item : (text : Bytes) (r : Row) → kind_of r ≡ line_kind → item_of text r ≡ line_item r.k1 r.count (if_given (r.tag % 2) (part text r.k2 r.k3))
unfolding item_of
line-item text r e = rw e

-- a section's header row is unchanged
pub combined_section : (text : Bytes) (mode : Mode) (old new : Row) → kind_of old ≡ 0 → RowInBounds text old → RowsCombined text mode old new (Ok old)
unfolding combine_entries combine_items item_of
combined_section text mode old new e w = record { is = rw e; whole = w }

module _ (text : Bytes) (mode : Mode) (old new : Row) where
  -- the entry of a row with the names of the old one
  module _ (tag k2 k3 count : ℕ) where
    entry-made : accepted (item_of text (made old tag k2 k3 count)) ≡ combine_items mode (item_of text old) (item_of text new)
        → accepted (entry_of text (made old tag k2 k3 count)) ≡ combine_entries mode (entry_of text old) (entry_of text new)
    unfolding combine_entries
    entry-made e = ap (λ (a : Answer Item). a >>= λ both. accepted (in_section (section_key (entry_of text old)) both)) e

    whole-made : RowInBounds text old → ItemInBounds text (made old tag k2 k3 count) → RowInBounds text (made old tag k2 k3 count)
    whole-made w g = record { named = record { test = w.named.test; path = w.named.path }; good = g }

  entry-refused : (fault : Fault) → refuse fault ≡ combine_items mode (item_of text old) (item_of text new)
      → refuse fault ≡ combine_entries mode (entry_of text old) (entry_of text new)
  unfolding combine_entries
  entry-refused fault e = ap (λ (a : Answer Item). a >>= λ both. accepted (in_section (section_key (entry_of text old)) both)) e

  -- the counts add, where the sum fits
  combined_sum : (tag k2 k3 : ℕ) (f : ℕ → Item) → ((n : ℕ) → item_of text (made old tag k2 k3 n) ≡ f n) → ((n : ℕ) → RowInBounds text (made old tag k2 k3 n))
      → combine_items mode (item_of text old) (item_of text new) ≡ (sum CountOverflow old.count new.count >>= λ total. accepted (f total))
      → RowsCombined text mode old new (summed (made old tag k2 k3 old.count) new.count)
  unfolding sum
  combined_sum tag k2 k3 f is whole e = go (leb (old.count + new.count) u64_max) e
    where
      go : (b : Bool)
          → combine_items mode (item_of text old) (item_of text new)
          ≡ ((if b then accepted (old.count + new.count) else refuse CountOverflow) >>= λ total. accepted (f total))
          → RowsCombined text mode old new (if b then Ok (made old tag k2 k3 (old.count + new.count)) else Err CountOverflow)
      go true q = record { is = entry-made tag k2 k3 (old.count + new.count) (ap accepted (is (old.count + new.count)) ∙ sym q); whole = whole (old.count + new.count) }
      go false q = record { is = entry-refused CountOverflow (sym q); whole = tt }

  -- ---- functions

  module _ (a : kind_of old ≡ function_kind) (b : kind_of new ≡ function_kind) (total : ℕ) (t : total ≡ min (old.count + new.count) u64_max) where
    abbrev x : Option Extent
    x = extent_in (old.tag % 2) old.k3

    abbrev y : Option Extent
    y = extent_in (new.tag % 2) new.k3

    abbrev function_with : Answer (Option Extent) → Answer Item
    function_with answer = answer >>= λ both. accepted (function_item (updated (function_in text old) both total))

    function-whole : (tag k3 : ℕ) → tag / 2 ≡ function_kind → RowInBounds text old → RowInBounds text (made old tag old.k2 k3 total)
    function-whole tag k3 e w = whole-made tag old.k2 k3 total w (record { kind = omega arith; name = λ z. w.good.name a; checksum = λ z y. absurd (omega arith) })

    module _ (earlier later : ℕ) (α : KeyOf old earlier) (β : KeyOf new later) (choice : Choice) (e : choice ≡ choice_of mode earlier later (eqb earlier later)) where
      earlier-is : earlier ≡ start_key x
      earlier-is = α text ∙ ap start_key (function-extent old a text)

      later_is : later ≡ start_key y
      later_is = β text ∙ ap start_key (function-extent new b text)

      functions-by : (c : Choice) → choice ≡ c → combine_items mode (item_of text old) (item_of text new) ≡ function_with (chosen_extent x y c)
      unfolding combine_items extent_of count_of
      functions-by c f =
          ap₂ (combine_items mode) (function-item text old a) (function-item text new b)
          ∙ ap (λ (n : ℕ). combine_extents mode x y >>= λ both. accepted (function_item (updated (function_in text old) both n))) (sym t)
          ∙ ap function_with (extents_chosen mode x y)
          ∙ ap (λ (d : Choice). function_with (chosen_extent x y d)) (sym (e ∙ ap₂ (λ (m n : ℕ). choice_of mode m n (eqb m n)) earlier-is later_is) ∙ f)

      pub function-earlier : (r : Row) → choice ≡ Earlier → r ≡ with_larger_end (new.tag % 2) (old.tag % 2) (made old old.tag old.k2 old.k3 total) new
          → RowInBounds text old → RowsCombined text mode old new (Ok r)
      function-earlier r f q w = rw q (go (new.tag % 2) (old.tag % 2) refl refl)
        where
          like : (later ≡ 0) ⊎ (earlier ≡ later)
          like = choice_earlier mode earlier later (sym e ∙ f)

          kept : (n m : ℕ) (tag k3 : ℕ) → new.tag % 2 ≡ n → old.tag % 2 ≡ m → tag / 2 ≡ function_kind
              → extent_in (tag % 2) k3 ≡ joined_extents (extent_in m old.k3) (extent_in n new.k3)
              → RowsCombined text mode old new (Ok (made old tag old.k2 k3 total))
          kept n m tag k3 u v k q = record {
            is = entry-made tag old.k2 k3 total
                (ap accepted
                (function-item text (made old tag old.k2 k3 total) k
                ∙ ap (λ (z : Option Extent). function_item (updated (function_in text old) z total))
                (q ∙ ap₂ (λ (i j : ℕ). joined_extents (extent_in i old.k3) (extent_in j new.k3)) (sym v) (sym u)))
                ∙ sym (functions-by Earlier f));
            whole = function-whole tag k3 k w;
          }

          go : (n m : ℕ) → new.tag % 2 ≡ n → old.tag % 2 ≡ m
              → RowsCombined text mode old new (Ok (with_larger_end n m (made old old.tag old.k2 old.k3 total) new))
          go zero m u v =
              kept zero m old.tag old.k3 u v a
              (ap (λ (i : ℕ). extent_in i old.k3) v ∙ plain-kept m old.k3 new.k3)
          go (suc n) zero u v =
              kept (suc n) zero new.tag new.k3 u v b
              (ap (λ (i : ℕ). extent_in i new.k3) u
              ∙ packed_taken n old.k3 new.k3 (same_key like (earlier-is ∙ ap (λ (i : ℕ). start_key (extent_in i old.k3)) v) (later_is ∙ ap (λ (i : ℕ). start_key (extent_in i new.k3)) u)))
          go (suc n) (suc m) u v = by-words (ltb old.k3 new.k3) refl
            where
              same : start_key (extent_in (suc m) old.k3) ≡ start_key (extent_in (suc n) new.k3)
              same = same_key like (earlier-is ∙ ap (λ (i : ℕ). start_key (extent_in i old.k3)) v) (later_is ∙ ap (λ (i : ℕ). start_key (extent_in i new.k3)) u)

              by-words : (less : Bool) → ltb old.k3 new.k3 ≡ less
                  → RowsCombined text mode old new (Ok (if less then made old new.tag old.k2 new.k3 total else made old old.tag old.k2 old.k3 total))
              by-words true l =
                  kept (suc n) (suc m) new.tag new.k3 u v b
                  (ap (λ (i : ℕ). extent_in i new.k3) u ∙ packed_joined n m old.k3 new.k3 new.k3 same (omega (arith, ltb-true old.k3 new.k3 l)))
              by-words false l =
                  kept (suc n) (suc m) old.tag old.k3 u v a
                  (ap (λ (i : ℕ). extent_in i old.k3) v ∙ packed_joined n m old.k3 new.k3 old.k3 same (omega (arith, ltb-false old.k3 new.k3 l)))

      pub function_later : (r : Row) → choice ≡ Later → r ≡ made old new.tag old.k2 new.k3 total → RowInBounds text old → RowsCombined text mode old new (Ok r)
      function_later r f q w = rw q record {
        is = entry-made new.tag old.k2 new.k3 total (ap accepted (function-item text (made old new.tag old.k2 new.k3 total) b) ∙ sym (functions-by Later f));
        whole = function-whole new.tag new.k3 b w;
      }

      pub function_neither : choice ≡ Neither → RowsCombined text mode old new (Err UnmatchedFunctionLine)
      function_neither f = record { is = entry-refused UnmatchedFunctionLine (sym (functions-by Neither f)); whole = tt }

  -- ---- branches

  module _ (a : kind_of old ≡ branch_kind) (b : kind_of new ≡ branch_kind) where
    branch-whole : (tag count : ℕ) → tag / 2 ≡ branch_kind → RowInBounds text old → RowInBounds text (made old tag old.k2 old.k3 count)
    branch-whole tag count e w = whole-made tag old.k2 old.k3 count w (record { kind = omega arith; name = λ z. absurd (omega arith); checksum = λ z y. absurd (omega arith) })

    branches-by : combine_items mode (item_of text old) (item_of text new)
        ≡ (sum_taken (if_given (old.tag % 2) old.count) (if_given (new.tag % 2) new.count) >>= λ total. accepted (branch_item old.k1 old.k2 old.k3 total))
    unfolding combine_items taken_of
    branches-by = ap₂ (combine_items mode) (branch-item text old a) (branch-item text new b)

    pub branch-earlier : new.tag % 2 ≡ 0 → RowInBounds text old → RowsCombined text mode old new (Ok old)
    unfolding sum_taken
    branch-earlier z w = record {
      is = entry-made old.tag old.k2 old.k3 old.count (ap accepted (branch-item text old a) ∙ sym (branches-by ∙ rw z));
      whole = w;
    }

    pub branch_later : new.tag % 2 ≢ 0 → old.tag % 2 ≡ 0 → RowInBounds text old → RowsCombined text mode old new (Ok (made old new.tag old.k2 old.k3 new.count))
    unfolding sum_taken
    branch_later n z w =
        let o : new.tag % 2 ≡ 1 = omega arith in
        record {
          is = entry-made new.tag old.k2 old.k3 new.count (ap accepted (branch-item text (made old new.tag old.k2 old.k3 new.count) b) ∙ sym (branches-by ∙ rw (z, o)));
          whole = branch-whole new.tag new.count b w;
        }

    pub branch-sum : (r : Result Row Fault) → r ≡ summed old new.count → new.tag % 2 ≢ 0 → old.tag % 2 ≢ 0 → RowInBounds text old → RowsCombined text mode old new r
    unfolding sum_taken
    branch-sum r e n z w =
        let o : new.tag % 2 ≡ 1 = omega arith in
        let p : old.tag % 2 ≡ 1 = omega arith in
        rw e
        (combined_sum old.tag old.k2 old.k3 (λ n. branch_item old.k1 old.k2 old.k3 (some n))
        (λ n. branch-item text (made old old.tag old.k2 old.k3 n) a ∙ rw p)
        (λ n. branch-whole old.tag n a w)
        (branches-by ∙ rw (p, o) (go (sum CountOverflow old.count new.count))))
      where
        go : (s : Answer ℕ) → ((s >>= λ taken. accepted (some taken)) >>= λ total. accepted (branch_item old.k1 old.k2 old.k3 total))
            ≡ (s >>= λ total. accepted (branch_item old.k1 old.k2 old.k3 (some total)))
        go (accepted n) = refl
        go (refused n) = refl

  -- ---- lines

  module _ (a : kind_of old ≡ line_kind) (b : kind_of new ≡ line_kind) (w : RowInBounds text old) (v : RowInBounds text new) (alike : Bool)
      (same : old.tag % 2 ≡ 1 → new.tag % 2 ≡ 1 → alike ≡ same_bytes (part text old.k2 old.k3) (part text new.k2 new.k3))
      (choice : Choice) (e : choice ≡ choice_of mode (old.tag % 2) (new.tag % 2) alike) where
    abbrev line_with : Answer (Option Bytes) → Answer Item
    line_with answer = answer >>= λ both. sum CountOverflow old.count new.count >>= λ total. accepted (line_item old.k1 total both)

    lines-by : (x : Choice) → choice ≡ x
        → combine_items mode (item_of text old) (item_of text new)
        ≡ line_with (chosen UnmatchedChecksum (if_given (old.tag % 2) (part text old.k2 old.k3)) (if_given (new.tag % 2) (part text new.k2 new.k3)) x)
    unfolding combine_items checksum_of count_of
    lines-by x f =
        ap₂ (combine_items mode) (line-item text old a) (line-item text new b)
        ∙ ap line_with (agreed same_bytes mode UnmatchedChecksum (old.tag % 2) (new.tag % 2) (part text old.k2 old.k3) (part text new.k2 new.k3) alike (λ y z. same (omega arith) (omega arith)))
        ∙ ap (λ (c : Choice). line_with (chosen UnmatchedChecksum (if_given (old.tag % 2) (part text old.k2 old.k3)) (if_given (new.tag % 2) (part text new.k2 new.k3)) c)) (sym e ∙ f)

    pub line-earlier : (r : Result Row Fault) → choice ≡ Earlier → r ≡ summed old new.count → RowsCombined text mode old new r
    line-earlier r f q =
        rw q
        (combined_sum old.tag old.k2 old.k3 (λ n. line_item old.k1 n (if_given (old.tag % 2) (part text old.k2 old.k3)))
        (λ n. line-item text (made old old.tag old.k2 old.k3 n) a)
        (λ n. whole-made old.tag old.k2 old.k3 n w (record { kind = w.good.kind; name = λ z. absurd (omega arith); checksum = w.good.checksum }))
        (lines-by Earlier f))

    pub line_later : (r : Result Row Fault) → choice ≡ Later → r ≡ summed (made old new.tag new.k2 new.k3 old.count) new.count → RowsCombined text mode old new r
    line_later r f q =
        rw q
        (combined_sum new.tag new.k2 new.k3 (λ n. line_item old.k1 n (if_given (new.tag % 2) (part text new.k2 new.k3)))
        (λ n. line-item text (made old new.tag new.k2 new.k3 n) b)
        (λ n. whole-made new.tag new.k2 new.k3 n w (record { kind = v.good.kind; name = λ z. absurd (omega arith); checksum = v.good.checksum }))
        (lines-by Later f))

    pub line_neither : choice ≡ Neither → RowsCombined text mode old new (Err UnmatchedChecksum)
    line_neither f = record { is = entry-refused UnmatchedChecksum (sym (lines-by Neither f)); whole = tt }

-- ---- sums

pub sum_fits : (r : Row) (more : ℕ) → r.count + more ≤ u64_max → Ok (made r r.tag r.k2 r.k3 (r.count + more)) ≡ summed r more
sum_fits r more h = rw (le-leb (r.count + more) u64_max h)
