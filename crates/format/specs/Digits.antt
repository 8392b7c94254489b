-- Numbers printed by subtraction: what each step promises. Assumes nothing.
use Rattle.std.specs.Prelude.{ℕ, zero, suc, ◌+◌, ◌*◌, ◌^◌, ◌≤◌, ◌<◌, ◌≡◌, [], length}
use Rattle.model.specs.Bytes.{Bytes}
use Rattle.model.specs.Number.{decimal}
use Rattle.format.specs.Put.{over}
use Rattle.format.specs.declared.Digit.{Digit}
use Rattle.format.specs.declared.Written.{Written}

-- a power was subtracted from v `digit` times, at most nine, and no longer fits into what is left
pub record Subtracted (v power : ℕ) (r : Digit) : Type 0 where
  pub all : v ≡ r.digit * power + r.rest
  pub left : r.rest < power
  pub few : r.digit ≤ 9

-- the digits of a number, none of 0
unfoldable pub front : ℕ → Bytes
front zero = []
front (suc n) = decimal (suc n)

-- v is written over the front of an output, but for its last k digits
pub record Begun (v k : ℕ) (old out : Bytes) (w : Written) : Type 0 where
  -- what is written
  pub high : ℕ
  pub all : v ≡ high * 10 ^ k + w.rest
  pub below : w.rest < 10 ^ k
  pub long : w.at ≡ length (front high)
  pub held : out ≡ over (front high) old
