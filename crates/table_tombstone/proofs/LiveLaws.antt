-- Laws of live rows: of parts, of rows that are all live or all deleted, and of tags. Assumes nothing.
use mathlib.Core.Path.{◌≡◌, refl, sym, ap, ◌∙◌}
use mathlib.Core.Logic.{◌≢◌}
use mathlib.Core.Bool.{Bool, true, false, not}
use mathlib.Core.List.{List, [], ◌∷◌, ◌++◌}
use Prim.Native.Nat.{ℕ, zero, suc, ◌+◌, ◌≤◌, ◌<◌}
use native.Mathlib.Omega.{arith}
use borrow.Author.Tests.{eqb-true, not-false, eq-eqb, ne_eqb}
use lib.Dec.{eqb}
use lib.ListN.{length}
use Rattle.std.specs.Prelude.{if◌then◌else◌}
use Rattle.model.specs.Lists.{filter}
use Rattle.model.proofs.ListLaws.{All, select_all, select_none, select_length, select_append}
use Rattle.table.specs.declared.Row.{Row}
use Rattle.table.specs.Places.{tabulate}
use Rattle.table.proofs.TabulateLaws.{length-tabulate, tabulate_cong, tabulate-split}
use Rattle.table_item.specs.Items.{tombstone_tag}
use Rattle.table_item.proofs.AllLaws.{all-tabulate}
use Rattle.table_tombstone.specs.Live.{is_live, deleted_row, live_rows}

-- ---- what a tag says

module _ (r : Row) where
  pub tag-live : r.tag ≢ tombstone_tag → is_live r ≡ true
  tag-live h = ap not (ne_eqb r.tag tombstone_tag h)

  pub tag_deleted : r.tag ≡ tombstone_tag → is_live r ≡ false
  tag_deleted e = ap not (eq-eqb r.tag tombstone_tag e)

  pub deleted_tagged : is_live r ≡ false → r.tag ≡ tombstone_tag
  deleted_tagged e = eqb-true r.tag tombstone_tag (not-false (eqb r.tag tombstone_tag) e)

  -- marking a deleted row changes nothing
  pub deleted_again : is_live r ≡ false → deleted_row r ≡ r
  deleted_again e = ap with_tag (sym (deleted_tagged e))
    where
      with_tag : ℕ → Row
      with_tag t = record {
        test = r.test;
        test_len = r.test_len;
        path = r.path;
        path_len = r.path_len;
        tag = t;
        k1 = r.k1;
        k2 = r.k2;
        k3 = r.k3;
        count = r.count;
      }

-- ---- the live rows of some rows

pub live_cong : (g f : ℕ → Row) (n : ℕ) → ((k : ℕ) → k < n → g k ≡ f k) → live_rows g n ≡ live_rows f n
live_cong g f n h = ap (filter is_live) (tabulate_cong g f n h)

pub live-split : (f : ℕ → Row) (m n : ℕ) → live_rows f (m + n) ≡ live_rows f m ++ live_rows (λ k. f (m + k)) n
live-split f m n = ap (filter is_live) (tabulate-split f m n) ∙ select_append is_live (tabulate f m) (tabulate (λ k. f (m + k)) n)

pub live_three : (f : ℕ → Row) (a b c : ℕ)
    → live_rows f (a + (b + c)) ≡ live_rows f a ++ (live_rows (λ k. f (a + k)) b ++ live_rows (λ k. f (a + (b + k))) c)
live_three f a b c = live-split f a (b + c) ∙ ap (λ (t : List Row). live_rows f a ++ t) (live-split (λ k. f (a + k)) b c)

module _ (P : Row → Type 0) where
  -- what holds of each live row holds of each row in the list of live rows
  pub live-each : (f : ℕ → Row) (n : ℕ) → ((k : ℕ) → k < n → is_live (f k) ≡ true → P (f k)) → All P (live_rows f n)
  unfolding tabulate filter
  live-each f zero h = tt
  live-each f (suc n) h = go (is_live (f 0)) refl (live-each (λ k. f (suc k)) n (λ k l. h (suc k) (omega arith)))
    where
      go : (b : Bool) → is_live (f 0) ≡ b → All P (live_rows (λ k. f (suc k)) n)
          → All P (if b then f 0 ∷ live_rows (λ k. f (suc k)) n else live_rows (λ k. f (suc k)) n)
      go true e i = (h 0 (omega arith) e, i)
      go false e i = i

pub live_all : (f : ℕ → Row) (n : ℕ) → ((k : ℕ) → k < n → is_live (f k) ≡ true) → live_rows f n ≡ tabulate f n
live_all f n h = select_all is_live (tabulate f n) (all-tabulate (λ r. is_live r ≡ true) f n h)

pub live-none : (f : ℕ → Row) (n : ℕ) → ((k : ℕ) → k < n → is_live (f k) ≡ false) → live_rows f n ≡ []
live-none f n h = select_none is_live (tabulate f n) (all-tabulate (λ r. is_live r ≡ false) f n h)

pub live-most : (f : ℕ → Row) (n : ℕ) → length (live_rows f n) ≤ n
live-most f n = omega (arith, select_length is_live (tabulate f n), length-tabulate f n)
