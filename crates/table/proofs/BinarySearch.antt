-- Binary search over a test that holds at no position behind one at which it fails. Assumes nothing.
use mathlib.Core.Path.{◌≡◌, refl, sym, ◌∙◌}
use mathlib.Core.Bool.{Bool, true, false}
use Prim.Native.Nat.{ℕ, ◌+◌, ◌≤◌, ◌<◌}
use native.Mathlib.Omega.{arith}
use Rattle.table.specs.Places.{PartitionPoint, SearchBounds}

pub by-test : {C : Type 0} (b : Bool) → (b ≡ true → C) → (b ≡ false → C) → C
by-test true f g = f refl
by-test false f g = g refl

-- where the test holds, it holds at every place before
abbrev pub Falling : (ℕ → Bool) → ℕ → Type 0
Falling test n = (k j : ℕ) → k ≤ j → j < n → test j ≡ true → test k ≡ true

pub bounds-start : (test : ℕ → Bool) (n : ℕ) → SearchBounds test n 0 n
bounds-start test n = record {
  ends = omega arith;
  most = omega arith;
  past = λ k l. absurd (omega arith);
  rest = λ k l h. absurd (omega arith);
}

module _ {test : ℕ → Bool} {n lo hi : ℕ} (falling : Falling test n) (η : SearchBounds test n lo hi) (m : ℕ) (l : lo ≤ m) (h : m < hi) where
  pub bounds-up : test m ≡ true → SearchBounds test n (m + 1) hi
  bounds-up t = record {
    ends = omega arith;
    most = η.most;
    past = λ k p. falling k m (omega arith) (omega arith) t;
    rest = η.rest;
  }

  pub bounds_down : test m ≡ false → SearchBounds test n lo m
  bounds_down f = record {
    ends = l;
    most = omega arith;
    past = η.past;
    rest = λ k p q. by-test (test k) (λ t. let z : true ≡ false = sym (falling m k p q t) ∙ f in cc) (λ e. e);
  }

pub bounds_done : {test : ℕ → Bool} {n lo hi : ℕ} → SearchBounds test n lo hi → hi ≤ lo → PartitionPoint test n lo
bounds_done η h = record {
  most = omega arith;
  past = η.past;
  rest = λ k l m. η.rest k (omega arith) m;
}
