-- The loop of `mark_deleted`: the rows from lo up to i were live and are now deleted. Assumes nothing.
use mathlib.Core.Path.{◌≡◌, sym, ap, ◌∙◌}
use mathlib.Core.Logic.{◌≢◌}
use mathlib.Core.Bool.{true, false}
use mathlib.Core.List.{List, ◌++◌, append-nil}
use Prim.Native.Nat.{ℕ, ◌+◌, ◌*◌, ◌-◌, ◌≤◌, ◌<◌}
use native.Mathlib.Omega.{arith}
use lib.ListN.{length, set, length-set}
use lib.Seq.{get_or-set_same, get_or-set_other}
use Rattle.table.specs.declared.Row.{Row}
use Rattle.table.specs.Places.{Unchanged, Updated}
use Rattle.table.specs.Rows.{tag_word, row_words, word, row_at, Written}
use Rattle.table.specs.Store.{number, Store, row}
use Rattle.table.proofs.PlaceLaws.{by-eq, by-lt}
use Rattle.table.proofs.TabulateLaws.{length-tabulate}
use Rattle.table.proofs.BinarySearch.{by-test}
use Rattle.table.proofs.StoreLaws.{put_store, put_row}
use Rattle.table_item.specs.Items.{tombstone_tag}
use Rattle.table_tombstone.specs.Live.{is_live, deleted_row, live_rows, MarkedDeleted}
use Rattle.table_tombstone.proofs.LiveLaws.{tag-live, tag_deleted, deleted_again, live-split, live_all, live-none}

-- ---- the tag's word is read

-- what it says of the row
module _ (ws : List ℕ) (index i : ℕ) where
  pub reads_live : word ws (number ws index i * row_words + tag_word) ≢ tombstone_tag → is_live (row ws index i) ≡ true
  unfolding row
  reads_live h = tag-live (row_at ws (number ws index i)) h

  pub reads_deleted : word ws (number ws index i * row_words + tag_word) ≡ tombstone_tag → is_live (row ws index i) ≡ false
  unfolding row
  reads_deleted e = tag_deleted (row_at ws (number ws index i)) e

-- ---- the tag's word is written

-- the words with another tag of row j
abbrev pub tagged : List ℕ → ℕ → List ℕ
tagged ws j = set ws (j * row_words + tag_word) tombstone_tag

tag-written : (ws : List ℕ) (j : ℕ) → j * row_words + tag_word < length ws → Written ws (tagged ws j) j (deleted_row (row_at ws j))
tag-written ws j h = record {
  there = λ i. record {
    test = same (j * row_words) (omega arith) i;
    test_len = same (j * row_words + 1) (omega arith) i;
    path = same (j * row_words + 2) (omega arith) i;
    path_len = same (j * row_words + 3) (omega arith) i;
    tag = get_or-set_same ws (j * row_words + tag_word) tombstone_tag 0 h i;
    k1 = same (j * row_words + 5) (omega arith) i;
    k2 = same (j * row_words + 6) (omega arith) i;
    k3 = same (j * row_words + 7) (omega arith) i;
    count = same (j * row_words + 8) (omega arith) i;
  };
  kept = record { below = λ k l. same k (omega arith); above = λ k l. same k (omega arith) };
}
  where
    same : (k : ℕ) → (k ≡ j * row_words + tag_word → ⊥) → word (tagged ws j) k ≡ word ws k
    same k n = get_or-set_other ws (j * row_words + tag_word) k tombstone_tag 0 n

module _ {ws : List ℕ} {index used : ℕ} (i : ℕ) (σ : Store ws index used) (l : i < used) where
  -- the tag's word is in bounds
  pub tag-room : number ws index i * row_words + tag_word < index
  tag-room = omega (arith, σ.numbers.below i l, σ.rows_end)

  was_tagged : Written ws (tagged ws (number ws index i)) (number ws index i) (deleted_row (row ws index i))
  unfolding row
  was_tagged = tag-written ws (number ws index i) (omega (arith, tag-room, σ.index_end))

  pub tagged-store : Store (tagged ws (number ws index i)) index used
  tagged-store = put_store σ l was_tagged (length-set ws (number ws index i * row_words + tag_word) tombstone_tag)

  pub tagged-row : Updated (row ws index) (row (tagged ws (number ws index i)) index) used i (deleted_row (row ws index i))
  tagged-row = put_row σ l was_tagged

-- ---- the loop

-- the rows from lo up to i were live and are now deleted; the others are unchanged
pub record Marking (f g : ℕ → Row) (used lo i : ℕ) : Type 0 where
  pub lived : (k : ℕ) → lo ≤ k → k < i → is_live (f k) ≡ true
  pub there : (k : ℕ) → lo ≤ k → k < i → g k ≡ deleted_row (f k)
  pub below : Unchanged f g 0 lo
  pub above : Unchanged f g i used

module _ {f g : ℕ → Row} {used lo i : ℕ} (β : Marking f g used lo i) (l : lo ≤ i) where
  -- one more live row
  pub marking_one : {h : ℕ → Row} → i < used → is_live (g i) ≡ true → Updated g h used i (deleted_row (g i)) → Marking f h used lo (i + 1)
  marking_one {h} m e π = record {
    lived = λ k p q. by-eq k i (λ x. rw x (ap is_live (sym still) ∙ e)) (λ x. β.lived k p (omega arith));
    there = λ k p q. by-eq k i
        (λ x. rw x (π.there ∙ ap deleted_row still))
        (λ x. π.others k (omega arith) x ∙ β.there k p (omega arith));
    below = λ k p q. π.others k (omega arith) (omega arith) ∙ β.below k p q;
    above = λ k p q. π.others k q (omega arith) ∙ β.above k (omega arith) q;
  }
    where
      still : g i ≡ f i
      still = β.above i (omega arith) m

  -- the rest is already deleted
  marked : {hi : ℕ} → i ≤ hi → hi ≤ used → ((k : ℕ) → i ≤ k → k < hi → is_live (f k) ≡ false) → MarkedDeleted f g used lo hi (i - lo)
  marked {hi} m n deleted = record {
    there = λ k p q. by-lt k i
        (λ x. β.there k p x)
        (λ x. β.above k x (omega arith) ∙ sym (deleted_again (f k) (deleted k x q)));
    below = β.below;
    above = λ k p q. β.above k (omega arith) q;
    count =
        ap (λ (k : ℕ). length (live_rows from k)) (let e : hi - lo ≡ i - lo + (hi - i) = omega arith in e)
        ∙ ap length (live-split from (i - lo) (hi - i))
        ∙ ap (λ (t : List Row). length (live_rows from (i - lo) ++ t))
        (live-none (λ k. from (i - lo + k)) (hi - i) (λ k p. deleted (lo + (i - lo + k)) (omega arith) (omega arith)))
        ∙ ap length (append-nil (live_rows from (i - lo)))
        ∙ ap length (live_all from (i - lo) (λ k p. β.lived (lo + k) (omega arith) (omega arith)))
        ∙ length-tabulate from (i - lo);
  }
    where
      from : ℕ → Row
      from k = f (lo + k)

  -- where the live rows come first, every row behind a deleted one is deleted
  pub marked_deleted : {hi : ℕ} → i < hi → hi ≤ used → ((j k : ℕ) → lo ≤ j → j < k → k < hi → is_live (f k) ≡ true → is_live (f j) ≡ true)
      → is_live (g i) ≡ false → MarkedDeleted f g used lo hi (i - lo)
  marked_deleted {hi} m n first e = marked (omega arith) n rest
    where
      here : is_live (f i) ≡ false
      here = ap is_live (sym (β.above i (omega arith) (omega arith))) ∙ e

      rest : (k : ℕ) → i ≤ k → k < hi → is_live (f k) ≡ false
      rest k p q =
          by-eq k i
          (λ x. rw x here)
          (λ x. by-test (is_live (f k)) (λ t. let z : true ≡ false = sym (first i k l (omega arith) q t) ∙ here in cc) (λ t. t))

  pub marked_all : {hi : ℕ} → i ≡ hi → hi ≤ used → MarkedDeleted f g used lo hi (hi - lo)
  marked_all m n = rw (← m) (marked (omega arith) (omega arith) (λ k p q. absurd (omega arith)))
