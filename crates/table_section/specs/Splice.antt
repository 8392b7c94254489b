-- A section put among others. Assumes nothing.
use Rattle.std.specs.Prelude.{ℕ, ◌+◌, ◌-◌, ◌≤◌, ◌<◌, ◌≡◌, ◌≢◌, List}
use Rattle.table.specs.declared.Row.{Row}
use Rattle.table.specs.Places.{Unchanged, Shifted}
use Rattle.table.specs.Store.{row, Store}

-- a row with the test name and the path of another
abbrev pub with_section : Row → Row → Row
with_section r key = record {
  test = key.test;
  test_len = key.test_len;
  path = key.path;
  path_len = key.path_len;
  tag = r.tag;
  k1 = r.k1;
  k2 = r.k2;
  k3 = r.k3;
  count = r.count;
}

-- the n rows from place from on have the section's test name and path
pub record SectionSet (ws ws' : List ℕ) (index used from n : ℕ) (key : Row) : Type 0 where
  pub store : Store ws' index used
  pub there : (k : ℕ) → from ≤ k → k < from + n → row ws' index k ≡ with_section (row ws index k) key
  pub below : Unchanged (row ws index) (row ws' index) 0 from
  pub above : Unchanged (row ws index) (row ws' index) (from + n) used

-- a row with the path of another
abbrev pub with_path : Row → Row → Row
with_path r other = record {
  test = r.test;
  test_len = r.test_len;
  path = other.path;
  path_len = other.path_len;
  tag = r.tag;
  k1 = r.k1;
  k2 = r.k2;
  k3 = r.k3;
  count = r.count;
}

-- the section's header row, given the first of the rows from lo up to hi, which have its key: a live header row there
-- gives the path's spelling
pub record HeaderRow (first : Row) (lo hi : ℕ) (key r : Row) : Type 0 where
  pub new : hi ≤ lo → r ≡ key
  pub spelled : lo < hi → first.tag ≡ 0 → r ≡ with_path key first
  pub other : lo < hi → first.tag ≢ 0 → r ≡ key

-- f is what each position had, g what it has: the section's header row and its n items, which were from position from
-- on, replace those from lo up to hi of the m entries
pub record Spliced (f g : ℕ → Row) (m from n lo hi : ℕ) (key : Row) : Type 0 where
  pub low : Unchanged f g 0 lo
  pub header : HeaderRow (f lo) lo hi key (g lo)
  pub items : (k j : ℕ) → lo < k → k < lo + (n + 1) → j + lo ≡ from + k → g k ≡ with_section (f j) key
  pub high : Shifted f g hi (lo + (n + 1)) (m - hi)
