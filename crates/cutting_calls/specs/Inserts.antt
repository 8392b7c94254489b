-- Inserts and queries, for what the calls `insert` and `query` return and leave in the lent slice. Crates line_num_pairs and line_num
-- promise the same: `slice` is the lent pairs as ranges (`ranges_in`), or the lent list. `Shares` is crate cutting's. Assumes nothing.
use Rattle.std.specs.Prelude.{Bool}
use Rattle.model.specs.declared.Refusal.{Refusal}
use Rattle.std.specs.Prelude.{ℕ, ◌≤◌, ◌≡◌, ◌↔◌, true, Result, Ok, Err}
use mathlib.Core.List.{List, [], ◌∷◌, Memᴰ as Member}
use Rattle.model.specs.declared.Range.{Range}
use Rattle.model.specs.Ranges.{insert_call, holds, query_call}
use Rattle.model.specs.Calls.{InsertCall, ValueCall}
use Rattle.cutting.specs.Inserts.{insert_all, Shares}

-- insert calls that all returned a number of pairs: each is lent the slice and the number that the one before left
pub data InsertCalls : List Range → ℕ → List Range → List Range → ℕ → Type 0 where
  no_more : {slice : List Range} {used : ℕ} → InsertCalls slice used [] slice used
  one_more : {slice slice' last : List Range} {used used' n : ℕ} {r : Range} {rs : List Range}
      → InsertCall (insert_call slice used r) slice slice' (Ok used') → InsertCalls slice' used' rs last n → InsertCalls slice used (r ∷ rs) last n

pub record QueriesCalls : Type 0 where
  pub says_yes : (slice last : List Range) (rs : List Range) (n s e : ℕ) (answer : Result Bool Refusal) → InsertCalls slice 0 rs last n
      → ValueCall (query_call last n s e) answer → s ≤ e
      → (answer ≡ Ok true) ↔ ((r : Range) × Member r rs × Shares s e r)
  -- no such query is refused
  pub answers : (slice last : List Range) (rs : List Range) (n s e : ℕ) (answer : Result Bool Refusal) → InsertCalls slice 0 rs last n
      → ValueCall (query_call last n s e) answer → answer ≡ Ok (holds (insert_all rs []) s e)
