-- Laws of results. Assumes nothing.
use mathlib.Core.Path.{◌≡◌, refl, sym, ap}
use mathlib.Core.Logic.{◌⊎◌, inl, inr}
use Prim.Native.Nat.{ℕ}
use mathlib.Core.Option.{some, map as mapSome}
use native.Mathlib.Omega.{arith}
use Rattle.ordmap.specs.Result.{Result, accepted, refused, bind, map_accepted, value, IsAccepted}

-- a case whose hypotheses clash: `impossible cc`
pub impossible : {A : Type 0} → ◌≡◌ {A = ℕ} 0 1 → A
impossible z = absurd (omega arith)

module _ {R A : Type 0} where
  pub accepted_inj : {a b : A} → ◌≡◌ {A = Result R A} (accepted a) (accepted b) → a ≡ b
  accepted_inj p = cc

  pub refused_inj : {m n : R} → ◌≡◌ {A = Result R A} (refused m) (refused n) → m ≡ n
  refused_inj p = cc

  pub not_accepted : {a : A} {n : R} → ◌≡◌ {A = Result R A} (refused n) (accepted a) → ⊥
  not_accepted p = impossible cc

  pub not_refused : {a : A} {n : R} → ◌≡◌ {A = Result R A} (accepted a) (refused n) → ⊥
  not_refused p = impossible cc

  -- a result is a value or a refusal
  pub accepted_or_refused : (r : Result R A) → ((a : A) × (r ≡ accepted a)) ⊎ ((n : R) × (r ≡ refused n))
  accepted_or_refused (accepted a) = inl (a, refl)
  accepted_or_refused (refused n) = inr (n, refl)

  pub is_accepted : {r : Result R A} {a : A} → r ≡ accepted a → IsAccepted r
  is_accepted {r} {a} p = rw p tt

  pub accepted-is : (r : Result R A) → IsAccepted r → (a : A) × (r ≡ accepted a)
  accepted-is (accepted a) i = (a, refl)
  accepted-is (refused n) i = absurd i

  pub value-accepted : (r : Result R A) {a : A} → value r ≡ some a → r ≡ accepted a
  value-accepted (accepted b) p = cc
  value-accepted (refused n) p = cc

  -- results that accept the same values have one value
  pub value_both : (r s : Result R A) → ((a : A) → r ≡ accepted a → s ≡ accepted a) → ((a : A) → s ≡ accepted a → r ≡ accepted a) → value r ≡ value s
  value_both (accepted a) s f g = ap value (sym (f a refl))
  value_both (refused m) (accepted b) f g = absurd (not_accepted (g b refl))
  value_both (refused m) (refused n) f g = refl

module _ {R A B : Type 0} where
  pub bind-next : (r : Result R A) (f g : A → Result R B) → ((a : A) → f a ≡ g a) → bind r f ≡ bind r g
  bind-next (accepted a) f g h = h a
  bind-next (refused r) f g h = refl

  pub bind-accepted : (r : Result R A) (f : A → Result R B) {b : B} → bind r f ≡ accepted b → (a : A) × (r ≡ accepted a) × (f a ≡ accepted b)
  bind-accepted (accepted a) f p = (a, refl, p)
  bind-accepted (refused n) f p = absurd (not_accepted p)

  pub bind-refused : (r : Result R A) (f : A → Result R B) {n : R} → bind r f ≡ refused n
      → (r ≡ refused n) ⊎ ((a : A) × (r ≡ accepted a) × (f a ≡ refused n))
  bind-refused (accepted a) f p = inr (a, refl, p)
  bind-refused (refused n) f p = inl cc

  pub map_accepted-accepted : (f : A → B) (r : Result R A) {b : B} → map_accepted f r ≡ accepted b → (a : A) × (r ≡ accepted a) × (f a ≡ b)
  map_accepted-accepted f (accepted a) p = (a, refl, accepted_inj p)
  map_accepted-accepted f (refused n) p = absurd (not_accepted p)

  pub map_accepted-refused : (f : A → B) (r : Result R A) {n : R} → map_accepted f r ≡ refused n → r ≡ refused n
  map_accepted-refused f (accepted a) p = absurd (not_refused p)
  map_accepted-refused f (refused n) p = cc

  pub value-map : (f : A → B) (r : Result R A) → value (map_accepted f r) ≡ mapSome f (value r)
  value-map f (accepted a) = refl
  value-map f (refused r) = refl

  -- results of one value, gone on with in the same way; one result, gone on with in two ways
  pub value-bind : (r s : Result R A) (f : A → Result R B) → value r ≡ value s → value (bind r f) ≡ value (bind s f)
  value-bind (accepted a) (accepted b) f p = let e : a ≡ b = cc in ap (λ c. value (f c)) e
  value-bind (accepted a) (refused n) f p = cc
  value-bind (refused m) (accepted b) f p = cc
  value-bind (refused m) (refused n) f p = refl

  pub value-bind-next : (r : Result R A) (f g : A → Result R B) → ((a : A) → r ≡ accepted a → value (f a) ≡ value (g a)) → value (bind r f) ≡ value (bind r g)
  value-bind-next (accepted a) f g h = h a refl
  value-bind-next (refused n) f g h = refl

pub bind_assoc : {R A B C : Type 0} (r : Result R A) (f : A → Result R B) (g : B → Result R C) → bind (bind r f) g ≡ bind r (λ a. bind (f a) g)
bind_assoc (accepted a) f g = refl
bind_assoc (refused n) f g = refl

-- two steps that do not need each other, in either order
pub value_swap : {R A B C : Type 0} (r : Result R A) (s : Result R B) (f : A → B → Result R C)
    → value (bind r (λ a. bind s (λ b. f a b))) ≡ value (bind s (λ b. bind r (λ a. f a b)))
value_swap (accepted a) s f = refl
value_swap (refused m) (accepted b) f = refl
value_swap (refused m) (refused n) f = refl
