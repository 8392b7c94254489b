-- The front of a buffer. Assumes nothing.
use Rattle.std.specs.Prelude.{ℕ, ◌≤◌, ◌≡◌, length, take}
use Rattle.model.specs.Bytes.{Bytes}

-- the first r bytes of out are these
pub record Fronts (r : ℕ) (out bytes : Bytes) : Type 0 where
  pub within : r ≤ length out
  pub is : take r out ≡ bytes
