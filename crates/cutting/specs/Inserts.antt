-- Inserts into an empty range list, and queries after them. Clause by clause:
--   "for each list of inserts into an empty range list that were all accepted": `Inserts slice 0 rs last n`. The ranges `rs` come in any
--     order, and the slice has any length. A half-open range is inserted as the closed range that `half_open` makes of it.
--   "a query with s ≤ e says yes": `query_call last n s e ≡ accepted true`, of the slice and the number of pairs that the last insert left.
--   "exactly when some inserted range with start ≤ end shares a line with s to e": `Shares`, for a member of `rs`.
-- Assumes nothing.
use Rattle.std.specs.Prelude.{ℕ, ◌≤◌, ◌≡◌, ◌↔◌, true, length}
use mathlib.Core.List.{List, [], ◌∷◌, Memᴰ as Member}
use Rattle.model.specs.declared.Range.{Range}
use Rattle.model.specs.Answer.{accepted}
use Rattle.model.specs.Ranges.{insert_range, insert_call, slice_after, holds, well_formed_ranges, query_call}

-- the ranges of a list after inserts, one after the other
unfoldable pub insert_all : List Range → List Range → List Range
insert_all [] ranges = ranges
insert_all (r ∷ rs) ranges = insert_all rs (insert_range r ranges)

-- r has start at most end, and a line that is also one of s to e
pub record Shares (s e : ℕ) (r : Range) : Type 0 where
  pub ordered : r.start ≤ r.end
  pub line : ℕ
  pub in_range : (r.start ≤ line) × (line ≤ r.end)
  pub in_query : (s ≤ line) × (line ≤ e)

-- insert calls that were all accepted: each is lent the slice and the number of pairs that the one before left
pub data Inserts : List Range → ℕ → List Range → List Range → ℕ → Type 0 where
  no_more : {slice : List Range} {used : ℕ} → Inserts slice used [] slice used
  one_more : {slice last : List Range} {used n : ℕ} {r : Range} {rs ranges : List Range} → insert_call slice used r ≡ accepted ranges
      → Inserts (slice_after (accepted ranges) slice) (length ranges) rs last n → Inserts slice used (r ∷ rs) last n

pub record Queries : Type 0 where
  pub says_yes : (slice last : List Range) (rs : List Range) (n s e : ℕ) → Inserts slice 0 rs last n → s ≤ e
      → (query_call last n s e ≡ accepted true) ↔ ((r : Range) × Member r rs × Shares s e r)
  -- the list is well formed, so the query is accepted, also with s above e
  pub well_formed_lem : (slice last : List Range) (rs : List Range) (n : ℕ) → Inserts slice 0 rs last n
      → (n ≡ length (insert_all rs [])) × (well_formed_ranges last n ≡ true)
  pub answers : (slice last : List Range) (rs : List Range) (n s e : ℕ) → Inserts slice 0 rs last n → query_call last n s e ≡ accepted (holds (insert_all rs []) s e)
  -- the same of the ranges, without calls
  pub ranges_hold : (rs : List Range) (s e : ℕ) → s ≤ e → (holds (insert_all rs []) s e ≡ true) ↔ ((r : Range) × Member r rs × Shares s e r)
