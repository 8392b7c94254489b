-- Rows in a list of words. Assumes nothing.
use Rattle.std.specs.Prelude.{ℕ, ◌+◌, ◌*◌, ◌≤◌, ◌<◌, ◌≡◌, List, [], ◌∷◌, get_or}
use Rattle.table.specs.declared.Row.{Row}
use Rattle.table.specs.Places.{Shifted}

-- the words of a row
abbrev pub row_words : ℕ
row_words = 9

-- the one that has its tag
abbrev pub tag_word : ℕ
tag_word = 4

abbrev pub word : List ℕ → ℕ → ℕ
word ws j = get_or ws j 0

-- a row's words, in order
abbrev pub words_of : Row → List ℕ
words_of r = r.test ∷ r.test_len ∷ r.path ∷ r.path_len ∷ r.tag ∷ r.k1 ∷ r.k2 ∷ r.k3 ∷ r.count ∷ []

-- the row that starts at word p
abbrev pub row_from : List ℕ → ℕ → Row
row_from ws p = record {
  test = word ws p;
  test_len = word ws (p + 1);
  path = word ws (p + 2);
  path_len = word ws (p + 3);
  tag = word ws (p + tag_word);
  k1 = word ws (p + 5);
  k2 = word ws (p + 6);
  k3 = word ws (p + 7);
  count = word ws (p + 8);
}

-- row j
abbrev pub row_at : List ℕ → ℕ → Row
row_at ws j = row_from ws (j * row_words)

-- ws' is ws but for the words from lo up to, not including, hi
pub record UnchangedOutside (ws ws' : List ℕ) (lo hi : ℕ) : Type 0 where
  pub below : (j : ℕ) → j < lo → word ws' j ≡ word ws j
  pub above : (j : ℕ) → hi ≤ j → word ws' j ≡ word ws j

-- ws' is ws but for the n words from to on, which are those that ws has from from on
pub record Moved (ws ws' : List ℕ) (from to n : ℕ) : Type 0 where
  pub shifted : Shifted (word ws) (word ws') from to n
  pub kept : UnchangedOutside ws ws' to (to + n)

-- ws' is ws but for row j, which is r
pub record Written (ws ws' : List ℕ) (j : ℕ) (r : Row) : Type 0 where
  pub there : row_at ws' j ≡ r
  pub kept : UnchangedOutside ws ws' (j * row_words) (j * row_words + row_words)
