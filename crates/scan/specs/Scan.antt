-- What the reading functions of this crate promise, in the model's definitions. Assumes nothing.
use Rattle.std.specs.Prelude.{◌≡◌, ℕ, ◌+◌, ◌*◌, ◌≤◌, Bool, false, ◌||◌, [], ◌∷◌, length, ◌==◌, nat_lt, if◌then◌else◌, Result, Ok, Err}
use Rattle.std.proofs.Math.Option.{Option, none, some}
use Rattle.model.specs.declared.Fault.{Fault}
use Rattle.model.specs.declared.Fault.TheVariants.{EmptyNumber}
use Rattle.model.specs.Bytes.{Bytes, newline, return, plus, comma, before, after}
use Rattle.model.specs.Answer.{Answer, accepted, refused}
use Rattle.model.specs.Number.{read_number}
use Rattle.scan.specs.declared.Number.{Number}
use Rattle.scan.specs.declared.Number.TheVariants.{Last, More}

unfoldable pub is_end : ℕ → Bool
is_end b = b == newline || b == return

-- ---- numbers

-- a number's answer, where it has n digits and then a comma and a rest follow, or nothing
abbrev pub followed : Answer ℕ → ℕ → Option Bytes → Result Number Fault
followed (accepted value) n none = Ok (Last value n)
followed (accepted value) n (some rest) = Ok (More value n)
followed (refused r) n rest = Err r.fault

-- the number at the front of a text, up to the first comma or the end
unfoldable pub number_in : ℕ → Bytes → Result Number Fault
number_in max s = followed (read_number max (before comma s)) (length (before comma s)) (after comma s)

-- how many bytes a number and its comma take
abbrev pub next_of : Result Number Fault → ℕ
next_of (Ok (Last value digits)) = 0
next_of (Ok (More value digits)) = digits + 1
next_of (Err fault) = 0

abbrev pub value_of : Result Number Fault → ℕ
value_of (Ok (Last value digits)) = value
value_of (Ok (More value digits)) = value
value_of (Err fault) = 0

pub record NumberRead (max : ℕ) (s : Bytes) (r : Result Number Fault) : Type 0 where
  pub is : r ≡ number_in max s
  pub long : next_of r ≤ length s
  pub most : value_of r ≤ max

-- ---- a number's steps

unfoldable pub is_signed : Bytes → Bool
is_signed [] = false
is_signed (b ∷ bs) = b == plus

-- a number without digits is empty
unfoldable pub with_digits : ℕ → Number → Result Number Fault
with_digits digits number = if digits == 0 then Err EmptyNumber else Ok number

pub record Above (value digit max : ℕ) (r : Bool) : Type 0 where
  pub is : r ≡ nat_lt max (value * 10 + digit)
