-- Ranges in a lent slice of pairs: a start and an end. Assumes nothing.
use Rattle.std.specs.Prelude.{ℕ, zero, suc, ◌+◌, ◌-◌, ◌≤◌, ◌<◌, ◌≡◌, ◌≢◌, Bool, List, [], ◌∷◌, ◌++◌, ltb, length, get_or, replicate}
use Rattle.model.specs.declared.Range.{Range}
use Rattle.table.specs.Places.{Shifted}

abbrev pub pair : ℕ → ℕ → Range
pair start end = record { start = start; end = end }

-- the pair at place k
abbrev pub range_at : List (List ℕ) → ℕ → Range
range_at pairs k = pair (get_or (get_or pairs k []) 0 0) (get_or (get_or pairs k []) 1 0)

-- f i, f (i + 1) and so on, n of them
unfoldable pub span : (ℕ → Range) → ℕ → ℕ → List Range
span f i zero = []
span f i (suc n) = f i ∷ span f (suc i) n

-- the slice as ranges
unfoldable pub ranges_in : List (List ℕ) → List Range
ranges_in pairs = span (range_at pairs) 0 (length pairs)

-- the pair at a place ends more than one line before a line
abbrev pub EndsBefore : List (List ℕ) → ℕ → ℕ → Bool
EndsBefore pairs line k = ltb (suc (range_at pairs k).end) line

module _ (f g : ℕ → Range) where
  -- r is at position i; the others are unchanged
  pub record RangePlaced (i : ℕ) (r : Range) : Type 0 where
    pub there : g i ≡ r
    pub others : (k : ℕ) → k ≢ i → g k ≡ f k

  -- the n places from to on have what those from from on had; the others are as they were
  pub record Carried (from to n : ℕ) : Type 0 where
    pub shifted : Shifted f g from to n
    pub below : (k : ℕ) → k < to → g k ≡ f k
    pub above : (k : ℕ) → to + n ≤ k → g k ≡ f k

  -- zeros from from up to, not including, end; the others are as they were
  pub record Cleared (from end : ℕ) : Type 0 where
    pub zeros : (k : ℕ) → from ≤ k → k < end → g k ≡ pair 0 0
    pub below : (k : ℕ) → k < from → g k ≡ f k
    pub above : (k : ℕ) → end ≤ k → g k ≡ f k

-- the pairs used, those from first up to past replaced by one
unfoldable pub replaced_by : (ℕ → Range) → ℕ → ℕ → Range → ℕ → List Range
replaced_by f used first r past = span f 0 first ++ r ∷ span f past (used - past)

-- as many zeros as fill the slice
abbrev pub filled_up : List (List ℕ) → List Range → List Range
filled_up pairs ranges = ranges ++ replicate (length pairs - length ranges) (pair 0 0)
