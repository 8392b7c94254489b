-- Tombstones: a replaced row is marked in place, and compaction removes all marked rows from the index. Assumes
-- nothing.
use Rattle.std.specs.Prelude.{ℕ, ◌+◌, ◌-◌, ◌≤◌, ◌<◌, ◌≡◌, Bool, true, false, not, List, eqb, length}
use Rattle.model.specs.Lists.{filter}
use Rattle.table.specs.declared.Row.{Row}
use Rattle.table.specs.Places.{tabulate, Unchanged}
use Rattle.table_item.specs.Items.{tombstone_tag}

abbrev pub is_live : Row → Bool
is_live r = not (eqb r.tag tombstone_tag)

-- what a row adds to the number of live rows
abbrev pub one_for : Bool → ℕ
one_for true = 1
one_for false = 0

-- a row with the tombstone's tag
abbrev pub deleted_row : Row → Row
deleted_row r = record {
  test = r.test;
  test_len = r.test_len;
  path = r.path;
  path_len = r.path_len;
  tag = tombstone_tag;
  k1 = r.k1;
  k2 = r.k2;
  k3 = r.k3;
  count = r.count;
}

-- the live ones of the first n rows, in order
abbrev pub live_rows : (ℕ → Row) → ℕ → List Row
live_rows f n = filter is_live (tabulate f n)

-- f is what each position had, g what it has: the rows from lo up to, not including, hi are deleted, and r of them were
-- live
pub record MarkedDeleted (f g : ℕ → Row) (used lo hi r : ℕ) : Type 0 where
  pub there : (k : ℕ) → lo ≤ k → k < hi → g k ≡ deleted_row (f k)
  pub below : Unchanged f g 0 lo
  pub above : Unchanged f g hi used
  pub count : length (live_rows (λ k. f (lo + k)) (hi - lo)) ≡ r

-- f is what each position had, g what it has: r of the first n rows were live, and these are now the first r
pub record Compacted (f g : ℕ → Row) (n r : ℕ) : Type 0 where
  pub rows : tabulate g r ≡ live_rows f n
  pub most : r ≤ n
