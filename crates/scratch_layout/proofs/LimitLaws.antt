-- The words of a scratch are enough for the limit that it has. Assumes nothing.
use Prim.Native.Nat.{ℕ, ◌≤◌}
use native.Mathlib.Omega.{arith}
use mathlib.Core.Path.{◌≡◌}
use mathlib.Core.List.{List}
use lib.ListN.{length}
use Rattle.model.specs.Limits.{max_entries}
use Rattle.model.specs.Gather.{entry_limit}
use Rattle.section.specs.Reading.{SectionRoom}
use Rattle.scratch_layout.specs.Layout.{index_at, ScratchRoom}

pub limit_few : (words limit : ℕ) → limit ≡ entry_limit words → limit ≤ max_entries
limit_few words limit is = omega arith

module _ (ws : List ℕ) (limit : ℕ) (is : limit ≡ entry_limit (length ws)) where
  pub limit_space : ScratchRoom ws limit
  limit_space = record { most = omega arith; words = omega arith }

  -- a reading has room
  pub limit_room : (index : ℕ) → index ≡ index_at limit → SectionRoom ws index limit
  limit_room index e = record { rows = omega arith; words = omega arith }
